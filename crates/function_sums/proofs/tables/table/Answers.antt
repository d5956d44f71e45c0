use Rattle.std.proofs.Common.{◌≡◌, ◌∙◌, ap, sym, subst, false, length, map, List, [], ℕ}
use Rattle.std.specs.List.{list_any}
use Rattle.std.specs.Str.{bytes_eq}
use Rattle.std.proofs.lemmas.Result.{IfOk-weaker}
use Rattle.flame_layout.proofs.Sums.{same_sums}
use Rattle.merged_stacks.specs.RankedStacks.{ranked_samples}
use Rattle.function_sums.specs.declared.counts.Count.{Count}
use Rattle.function_sums.specs.declared.sums.FunctionSum.{FunctionSum}
use Rattle.function_sums.specs.FunctionSums.{total_of}
use Rattle.function_sums.specs.checked.Counted.{AreCounts}
use Rattle.function_sums.specs.checked.Cuts.{counted_of, lasts_of, AreCut}
use Rattle.function_sums.specs.checked.Rows.{row_sum}
use Rattle.function_sums.proofs.CutSamples.{counted-light, same_counted, same_lasts}
use Rattle.function_sums.proofs.Functions.{table_of}
use Rattle.function_sums.proofs.NamesWithWeight.{weightless}
use Rattle.function_sums.proofs.tables.table.Goals as goal

pub rows-requires : goal.rows-requires
rows-requires c = ap length c.deref.ensures.value ∙ c.in_ok-counts.ensures.counts.1.many

pub returns : goal.returns
returns c =
    let stacks = ranked_samples c.args.merged.now in
    let call = c.args.call in
    let names = c.args.merged.now.names in
    let stamp = c.in_ok-counts.ensures.counts.0 in
    let counted = subst (λ (all : List Count). AreCounts names all (lasts_of call stacks) (counted_of call stacks) [] 0 stamp) (sym c.deref.ensures.value) c.in_ok-counts.ensures.counts.1 in
    let light : (name : List ℕ) → list_any (bytes_eq name) names ≡ false → total_of name (counted_of call stacks) ≡ 0 =
    λ name miss. counted-light call name stacks (weightless name names c.args.merged.now.rows c.in_ok-counts.ensures.known miss) in
    IfOk-weaker c.sums.result _ _ (λ all e samples alike.
    let same = same_sums samples stacks alike in
    subst (λ (xs : List FunctionSum). AreCut call c.args.by samples xs) (sym (e ∙ ap (map row_sum) c.deref-2.ensures.value))
    (table_of c.args.by (lasts_of call stacks) (counted_of call stacks) names c.in_ok-counts.ensures.rising light c.in_ok-rows.rows.items c.sort_unstable.new.self.items
    (c.in_ok-rows.ensures.sums (lasts_of call stacks) (counted_of call stacks) stamp counted) c.in_ok-rows.ensures.keys c.sort_unstable.ensures.permutation c.sort_unstable.ensures.sorted
    (lasts_of call samples) (counted_of call samples) (same_lasts samples stacks same call) (same_counted samples stacks same call)))
    c.sums.ensures
