use Rattle.std.proofs.Common.{◌≡◌, ◌∙◌, sym, ap, subst, map, string_bytes, length}
use Rattle.std.proofs.lemmas.List.{length-map}
use Rattle.std.proofs.lemmas.Result.{IfOk-weaker}
use Rattle.sample_tables.specs.Rows.{name_at}
use Rattle.merged_stacks.specs.Timeline.{samples_of}
use Rattle.merged_stacks.specs.Merged.{all_samples, merged_samples}
use Rattle.merged_stacks.specs.checked.Ranks.{all_told}
use Rattle.merged_stacks.specs.RankedStacks.{ranked_samples}
use Rattle.merged_stacks.specs.checked.Ranked.{IsNamedBy}
use Rattle.merged_stacks.proofs.JoinedStacks.{ranks_name}
use Rattle.merged_stacks.proofs.merged.MergedStacks.of.Goals as goal

pub ranked-requires-clause-ranks : goal.ranked-requires-clause-ranks
ranked-requires-clause-ranks g c =
    ap length c.deref.ensures.value ∙ sym (length-map c.in_ok-names.field-0.ranks.items (name_at (map string_bytes c.in_ok-names.field-0.names.items))) ∙ ap length c.in_ok-names.ensures.named

pub merged-requires-clause-sums : goal.merged-requires-clause-sums
merged-requires-clause-sums g c =
    let names = map string_bytes c.in_ok-names.field-0.names.items in
    let told = all_told c.args.lists.now in
    let by = subst (λ ranks. IsNamedBy names ranks told) (sym c.deref.ensures.value) (ranks_name told names c.in_ok-names.field-0.ranks.items c.in_ok-names.ensures) in
    (all_samples (samples_of c.args.lists.now), c.in_ok-rows.ensures names by, c.requires)

pub returns : goal.returns
returns g c =
    let names = map string_bytes c.in_ok-names.field-0.names.items in
    let samples = all_samples (samples_of c.args.lists.now) in
    let told = all_told c.args.lists.now in
    let by = subst (λ ranks. IsNamedBy names ranks told) (sym c.deref.ensures.value) (ranks_name told names c.in_ok-names.field-0.ranks.items c.in_ok-names.ensures) in
    IfOk-weaker c.merged.result _ (λ merged. ranked_samples merged ≡ merged_samples samples)
    (λ merged is. is samples (c.in_ok-rows.ensures names by)) c.merged.ensures
