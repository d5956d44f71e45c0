use Rattle.std.proofs.Common.{◌≡◌, ◌∙◌, [], sym, ap, subst, map, string_bytes, length, refl}
use Rattle.std.specs.List.{range_with_len}
use Rattle.std.proofs.lemmas.List.{length-map}
use Rattle.std.proofs.lemmas.List.Sorted.{IsPermutation-refl}
use Rattle.std.proofs.lemmas.Result.{IfOk-weaker}
use Rattle.sample_tables.specs.declared.samples.Sample.{Sample}
use Rattle.sample_tables.specs.Rows.{name_at}
use Rattle.std.specs.Prelude.{List}
use Rattle.merged_stacks.specs.Merged.{merged_samples}
use Rattle.merged_stacks.specs.RankedStacks.{ranked_samples}
use Rattle.merged_stacks.specs.Sums.{HaveSameSums, kept_samples}
use Rattle.merged_stacks.specs.checked.Kept.{kept_sample}
use Rattle.merged_stacks.specs.checked.Ranked.{IsNamedBy}
use Rattle.merged_stacks.proofs.JoinedStacks.{ranks_name}
use Rattle.merged_stacks.proofs.KeptStacks.{ordered_same, sums_of_same}
use Rattle.merged_stacks.proofs.merged.MergedStacks.of_sums.Goals as goal

pub rows_of_sums-requires-clause-ranks : goal.rows_of_sums-requires-clause-ranks
rows_of_sums-requires-clause-ranks g c =
    ap length c.deref.ensures.value ∙ sym (length-map c.in_ok-names.field-0.ranks.items (name_at (map string_bytes c.in_ok-names.field-0.names.items))) ∙ ap length c.in_ok-names.ensures.named

pub merged-requires-clause-sums : goal.merged-requires-clause-sums
merged-requires-clause-sums g c =
    let table = c.args.table.now in
    let sums = c.args.sums.now in
    let kept = kept_samples table.names table.stacks sums in
    let names = map string_bytes c.in_ok-names.field-0.names.items in
    let by = subst (λ ranks. IsNamedBy names ranks table.names) (sym c.deref.ensures.value) (ranks_name table.names names c.in_ok-names.field-0.ranks.items c.in_ok-names.ensures) in
    let numbers = range_with_len 0 (length table.stacks) in
    let same = ordered_same table.names table.stacks sums numbers kept c.requires.sums (IsPermutation-refl numbers) (record { sums = λ q. refl; total = refl }) in
    (kept, sums_of_same names [] (map (kept_sample table.names table.stacks sums) numbers) kept c.in_ok-rows.rows same (c.in_ok-rows.ensures names by), c.requires.total)

pub returns : goal.returns
returns g c =
    let table = c.args.table.now in
    let sums = c.args.sums.now in
    let kept = kept_samples table.names table.stacks sums in
    let names = map string_bytes c.in_ok-names.field-0.names.items in
    let by = subst (λ ranks. IsNamedBy names ranks table.names) (sym c.deref.ensures.value) (ranks_name table.names names c.in_ok-names.field-0.ranks.items c.in_ok-names.ensures) in
    let numbers = range_with_len 0 (length table.stacks) in
    IfOk-weaker c.merged.result _ (λ merged. (samples : List Sample) → HaveSameSums kept samples → ranked_samples merged ≡ merged_samples samples)
    (λ merged is samples has. is samples
    (sums_of_same names [] (map (kept_sample table.names table.stacks sums) numbers) samples c.in_ok-rows.rows
    (ordered_same table.names table.stacks sums numbers samples c.requires.sums (IsPermutation-refl numbers) has)
    (c.in_ok-rows.ensures names by))) c.merged.ensures
