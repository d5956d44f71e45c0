use Rattle.std.proofs.Common.{◌≡◌, ℕ, Bool, List, None, take}
use Rattle.source_lists.specs.checked.KeptStacks.{are_passing, passing_samples}
use Rattle.source_lists.proofs.kept_lists.kept_list.Given as goal

abbrev pub invariant-loop-at : goal.invariant-loop-at
invariant-loop-at l = record {
  open_ : l.ledger.close ≡ None;
  told : l.ledger.told ≡ l.list.told;
  stacks : l.ledger.stacks ≡ l.list.stacks;
  samples : (passes : List (List ℕ) → Bool) → l.kept ≡ are_passing passes l.list → l.ledger.samples ≡ passing_samples passes (take l.at l.list.samples);
}
