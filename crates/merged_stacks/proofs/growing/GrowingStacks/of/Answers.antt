use Rattle.std.proofs.Common.{◌≡◌, ◌∙◌, ◌<◌, ◌^◌, List, ℕ, sym, ap, subst, length, map, string_bytes, arith}
use Rattle.std.proofs.lemmas.List.{length-map}
use Rattle.sample_tables.specs.Rows.{name_at}
use Rattle.merged_stacks.specs.Timeline.{total_weight, samples_of}
use Rattle.merged_stacks.specs.Merged.{all_samples}
use Rattle.merged_stacks.specs.checked.Growing.{lists_in, counts_in}
use Rattle.merged_stacks.specs.checked.Ranks.{all_told, AreRanks}
use Rattle.merged_stacks.proofs.GrowingLists.{none_counted, lists_begun}
use Rattle.merged_stacks.proofs.growing.GrowingStacks.of.Goals as goal

pub parts_of-requires-clause-ranks : goal.parts_of-requires-clause-ranks
parts_of-requires-clause-ranks c =
    let names : List (List ℕ) = map string_bytes c.in_ok-names.field-0.names.items in
    omega (arith, ap length c.deref.ensures.value, length-map c.in_ok-names.field-0.ranks.items (name_at names), ap length c.in_ok-names.ensures.named)

pub invariant_of-result : goal.invariant_of-result
invariant_of-result c =
    let lists = c.args.lists.now in
    let same : lists_in c.in_ok-parts.parts.items ≡ lists = ap lists_in c.in_ok-parts.ensures ∙ lists_begun lists in
    record {
      counted = c.in_ok-counts.ensures.items_if_clones_equal (λ y e. e) ∙ none_counted lists ∙ ap counts_in (sym c.in_ok-parts.ensures);
      ranked = subst (λ all. AreRanks (all_told all) c.none.result.names c.in_ok-names.field-0.ranks.items) (sym same) (subst (λ names. AreRanks (all_told lists) names c.in_ok-names.field-0.ranks.items) (sym c.none.ensures) c.in_ok-names.ensures);
      total = subst (λ all. total_weight (all_samples (samples_of all)) < 2 ^ 64) (sym same) c.requires;
    }

pub returns-clause-lists : goal.returns-clause-lists
returns-clause-lists c = ap samples_of (ap lists_in c.in_ok-parts.ensures ∙ lists_begun c.args.lists.now)
