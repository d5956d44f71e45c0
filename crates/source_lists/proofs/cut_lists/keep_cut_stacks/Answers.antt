use Rattle.std.proofs.Common.{◌∙◌, ◌≡◌, ◌<◌, ◌-◌, ℕ, Bool, List, [], All, ap, arith, drop, get_or, length, map, subst, sym, take}
use Rattle.std.proofs.lemmas.List.{length-drop, map_push, take_all, take_more}
use Rattle.stack_core.specs.Ledgers.{LedgerState, keeping}
use Rattle.source_lists.specs.checked.CutStacks.{from_marked, shown_numbers, unmarked}
use Rattle.source_lists.specs.checked.KeptStacks.{begun}
use Rattle.source_lists.proofs.CutLemmas.{all_shown_numbers, numbers_shorter}
use Rattle.source_lists.proofs.cut_lists.keep_cut_stacks.Goals as goal

-- the numbers that are kept are those that are shown of the stack
shown_of_stack : (starts left_out : List Bool) (stack kept : List ℕ) (first : ℕ) → kept ≡ unmarked left_out (take (length stack - first) (drop first stack)) → drop first stack ≡ from_marked starts stack
    → kept ≡ shown_numbers starts left_out stack
shown_of_stack starts left_out stack kept first is begins =
    is ∙ ap (unmarked left_out) (take_all (length stack - first) (drop first stack) (omega (arith, length-drop first stack)) ∙ begins)

pub keep-requires : goal.keep-requires
keep-requires c =
    let stack = c.stack-stack.result.now in
    let starts = c.args.starts.now in
    let left_out = c.args.left_out.now in
    let kept = c.deref.result.now in
    let known : List (List ℕ) = c.args.list.now.told in
    let is = shown_of_stack starts left_out stack kept c.first_marked-first.result (c.deref.ensures.value ∙ c.in_ok-unmarked.ensures) c.first_marked-first.ensures.first in
    record {
      «open» = ap (λ (ledger : LedgerState). ledger.close) c.loop-number.invariant;
      depth = omega (arith, ap length is, numbers_shorter starts left_out stack, c.stack-stack.ensures.limit);
      numbers = subst (λ (told : List (List ℕ)). All (λ k. k < length told) kept) (sym (ap (λ (ledger : LedgerState). ledger.told) c.loop-number.invariant))
          (subst (λ (kept : List ℕ). All (λ k. k < length known) kept) (sym is) (all_shown_numbers (λ k. k < length known) starts left_out stack c.stack-stack.ensures.told));
    }

pub loop-number-preserved : goal.loop-number-preserved
loop-number-preserved c =
    let list = c.args.list.now in
    let starts = c.args.starts.now in
    let left_out = c.args.left_out.now in
    let n = c.loop-number.number in
    let within : n < length list.stacks = omega arith in
    let shown = shown_numbers starts left_out in
    let stack =
    shown_of_stack starts left_out c.stack-stack.result.now c.deref.result.now c.first_marked-first.result (c.deref.ensures.value ∙ c.in_ok-unmarked.ensures) c.first_marked-first.ensures.first
    ∙ ap shown c.stack-stack.ensures.value in
    c.in_ok-keep.ensures.ok
    ∙ ((λ i. keeping (c.loop-number.invariant i) (stack i))
    ∙ ap (begun list.told) (sym (map_push shown (take n list.stacks) (get_or list.stacks n [])) ∙ ap (map shown) (sym (take_more list.stacks n [] within))))
