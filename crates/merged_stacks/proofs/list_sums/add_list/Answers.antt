use Rattle.std.proofs.Common.{◌∙◌, IsPermutation, ap, map, sym, subst, length}
use Rattle.std.specs.List.{range_with_len}
use Rattle.std.proofs.lemmas.List.Sorted.{IsPermutation-refl}
use Rattle.std.proofs.lemmas.Result.{on_ok_weaker}
use Rattle.merged_stacks.specs.checked.Kept.{HaveSameSums, kept_sample, kept_samples}
use Rattle.merged_stacks.proofs.KeptStacks.{ordered_same, ordered_within, sums_of_same}
use Rattle.merged_stacks.proofs.list_sums.add_list.Goals as goal

pub add_numbered-requires-clause-sums : goal.add_numbered-requires-clause-sums
add_numbered-requires-clause-sums c = ap length c.deref.ensures.value ∙ c.in_ok-sums.ensures.len

pub add_numbered-requires-clause-order : goal.add_numbered-requires-clause-order
add_numbered-requires-clause-order c =
    let n = length c.args.list.now.stacks in
    let order = c.deref-2.ensures.value ∙ c.in_ok-order.ensures ∙ ap (range_with_len 0) c.stack_count.ensures in
    ordered_within n c.deref-2.result.now (subst (IsPermutation (range_with_len 0 n)) (sym order) (IsPermutation-refl (range_with_len 0 n)))

pub returns : goal.returns
returns c =
    let list = c.args.list.now in
    let n = length list.stacks in
    let sums = c.deref.result.now in
    let order = c.deref-2.ensures.value ∙ c.in_ok-order.ensures ∙ ap (range_with_len 0) c.stack_count.ensures in
    let moved = subst (IsPermutation (range_with_len 0 n)) (sym order) (IsPermutation-refl (range_with_len 0 n)) in
    let kept = subst (λ all. HaveSameSums (kept_samples list.told list.stacks all) list.samples) (sym c.deref.ensures.value) c.in_ok-sums.ensures.same in
    let same = ordered_same list.told list.stacks sums c.deref-2.result.now list.samples (ap length c.deref.ensures.value ∙ c.in_ok-sums.ensures.len) moved kept in
    on_ok_weaker c.add_numbered.result (λ added names samples by sums_are.
    sums_of_same names samples (map (kept_sample list.told list.stacks sums) c.deref-2.result.now) list.samples c.add_numbered.new.rows same (added names samples by sums_are)) c.add_numbered.ensures
