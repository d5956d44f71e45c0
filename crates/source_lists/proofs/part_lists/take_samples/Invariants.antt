use Rattle.std.proofs.Common.{◌≡◌, ◌++◌, None, take}
use Rattle.source_lists.proofs.part_lists.take_samples.Given as goal

abbrev pub invariant-loop-at : goal.invariant-loop-at
invariant-loop-at l = record {
  open_ : l.ledger.close ≡ None;
  told : l.ledger.told ≡ l.fn.ledger.told;
  stacks : l.ledger.stacks ≡ l.fn.ledger.stacks;
  samples : l.ledger.samples ≡ l.fn.ledger.samples ++ take l.at l.list.samples;
}
