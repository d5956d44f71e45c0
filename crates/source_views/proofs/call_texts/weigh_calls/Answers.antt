use Rattle.std.proofs.Common.{◌≡◌, ◌∙◌, ◌∷◌, ◌<◌, ◌+◌, ℕ, List, length, ap, take, arith}
use Rattle.std.proofs.lemmas.List.{length-take, take_all}
use Rattle.std.proofs.lemmas.Result.{IfOk-weaker}
use Rattle.sample_tables.specs.declared.samples.Sample.{Sample}
use Rattle.flame_layout.specs.Paths.{SameOwn}
use Rattle.merged_stacks.specs.RankedStacks.{ranked_samples}
use Rattle.function_sums.specs.Calls.{calls_of}
use Rattle.function_sums.specs.FunctionSums.{sums_of}
use Rattle.source_views.proofs.call_texts.weigh_calls.Goals as goal

-- so many behind the first are all, where the list is no longer
all_behind : {X : Type 0} (first : X) (others items : List X) (rows : ℕ) → items ≡ first ∷ take rows others → length items < rows + 1 → items ≡ first ∷ others
all_behind first others items rows are few =
    are ∙ ap (λ behind. first ∷ behind) (take_all rows others (omega (arith, few, ap length are, length-take rows others)))

pub returns : goal.returns
returns c =
    let side = c.args.side in
    let name = c.args.table.now.name in
    IfOk-weaker c.first_calls.result _ (λ sums. (samples : List Sample) → SameOwn samples (ranked_samples c.args.merged.now) → sums.items ≡ sums_of samples name ∷ calls_of side name samples)
    (λ sums weighed samples same.
    let few : length sums.items < 18446744073709551615 + 1 = omega (arith, sums.small, sums.ok) in
    all_behind (sums_of samples c.get.result.now) (calls_of side c.get.result.now samples) sums.items 18446744073709551615 (weighed samples same) few
    ∙ ap (λ (name : List ℕ). sums_of samples name ∷ calls_of side name samples) c.get.ensures)
    c.first_calls.ensures
