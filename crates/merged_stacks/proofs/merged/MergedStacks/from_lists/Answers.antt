use Rattle.std.proofs.Common.{◌≡◌, ◌∙◌, sym, ap, subst, List, ℕ, map, string_bytes, length}
use Rattle.std.proofs.lemmas.List.{length-map}
use Rattle.std.proofs.lemmas.Result.{IfOk-weaker}
use Rattle.stack_core.specs.Ledgers.{ListState}
use Rattle.sample_tables.specs.Rows.{name_at}
use Rattle.merged_stacks.specs.Timeline.{samples_of}
use Rattle.merged_stacks.specs.Merged.{all_samples, merged_samples}
use Rattle.merged_stacks.specs.checked.Ranks.{all_told, AreRanks}
use Rattle.merged_stacks.specs.RankedStacks.{ranked_samples}
use Rattle.merged_stacks.proofs.JoinedStacks.{ranks_name}
use Rattle.merged_stacks.proofs.merged.MergedStacks.from_lists.Goals as goal

-- the ranks are those of the names that the lists were told, which were lent
told_ranks : (lent lists : List ListState) (names : List (List ℕ)) (ranks : List ℕ) → lent ≡ lists → AreRanks (all_told lent) names ranks → AreRanks (all_told lists) names ranks
told_ranks lent lists names ranks same h = subst (λ (all : List ListState). AreRanks (all_told all) names ranks) same h

pub ranked_out-requires-clause-ranks : goal.ranked_out-requires-clause-ranks
ranked_out-requires-clause-ranks g c =
    let names = map string_bytes c.in_ok-names.field-0.names.items in
    let ranks = c.in_ok-names.field-0.ranks.items in
    sym (length-map ranks (name_at names)) ∙ ap length (told_ranks c.deref.result.now c.args.lists.items names ranks c.deref.ensures.value c.in_ok-names.ensures).named

pub merged-requires-clause-sums : goal.merged-requires-clause-sums
merged-requires-clause-sums g c =
    let names = map string_bytes c.in_ok-names.field-0.names.items in
    let ranks = c.in_ok-names.field-0.ranks.items in
    let told = all_told c.args.lists.items in
    let by = ranks_name told names ranks (told_ranks c.deref.result.now c.args.lists.items names ranks c.deref.ensures.value c.in_ok-names.ensures) in
    (all_samples (samples_of c.args.lists.items), c.in_ok-rows.ensures names by, c.requires)

pub returns : goal.returns
returns g c =
    let names = map string_bytes c.in_ok-names.field-0.names.items in
    let ranks = c.in_ok-names.field-0.ranks.items in
    let samples = all_samples (samples_of c.args.lists.items) in
    let told = all_told c.args.lists.items in
    let by = ranks_name told names ranks (told_ranks c.deref.result.now c.args.lists.items names ranks c.deref.ensures.value c.in_ok-names.ensures) in
    IfOk-weaker c.merged.result _ (λ merged. ranked_samples merged ≡ merged_samples samples)
    (λ merged is. is samples (c.in_ok-rows.ensures names by)) c.merged.ensures
