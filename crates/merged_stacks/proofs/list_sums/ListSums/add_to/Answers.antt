use Rattle.std.proofs.Common.{◌++◌, ℕ, List, IsPermutation, OnOk, length, map, subst, sym, take}
use Rattle.std.specs.List.{range_with_len}
use Rattle.std.proofs.lemmas.Result.{on_ok_weaker}
use Rattle.sample_tables.specs.declared.samples.Sample.{Sample}
use Rattle.merged_stacks.specs.checked.Growing.{ListFront, came, IsSummed}
use Rattle.merged_stacks.specs.checked.Kept.{kept_sample}
use Rattle.merged_stacks.specs.checked.Ranked.{HasSums, IsNamedBy}
use Rattle.merged_stacks.proofs.KeptStacks.{came_same, ordered_within, sums_of_same}
use Rattle.merged_stacks.proofs.list_sums.ListSums.add_to.Goals as goal

pub add_numbered-requires-clause-order : goal.add_numbered-requires-clause-order
add_numbered-requires-clause-order c =
    ordered_within (length c.self.inside.list.now.stacks) c.deref-2.result.now (subst (IsPermutation (range_with_len 0 (length c.self.inside.list.now.stacks))) (sym c.deref-2.ensures.value) c.self.invariant.ordered)

pub returns : goal.returns
returns c =
    let list = c.self.inside.list.now in
    let count = c.self.inside.count in
    let added = λ (front : ListFront).
    OnOk c.add_numbered.result ((names : List (List ℕ)) (samples : List Sample) → IsNamedBy names c.args.ranks.now front.list.told → HasSums names samples c.args.rows.now → HasSums names (samples ++ came front) c.add_numbered.new.rows) in
    let same = came_same list c.deref-2.result.now c.deref.result.now count
    (subst (λ order. IsSummed list order c.deref.result.now count) (sym c.deref-2.ensures.value) (subst (λ sums. IsSummed list c.self.inside.order.items sums count) (sym c.deref.ensures.value) c.self.invariant)) in
    subst added c.self.view_is
    (on_ok_weaker c.add_numbered.result (λ kept names samples by sums. sums_of_same names samples (map (kept_sample list.told list.stacks c.deref.result.now) c.deref-2.result.now) (take count list.samples) c.add_numbered.new.rows same (kept names samples by sums)) c.add_numbered.ensures)
