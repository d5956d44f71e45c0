use Rattle.std.proofs.Common.{[], take}
use Rattle.source_lists.specs.checked.Joining.{AreFound, KeepsMore, named_stacks}
use Rattle.source_lists.proofs.joined_stacks.numbers_of_stacks.Given as goal

abbrev pub invariant-loop-at : goal.invariant-loop-at
invariant-loop-at l = record {
  found : AreFound [] (named_stacks l.ledger.told l.ledger.stacks) l.numbers.items (take l.at (named_stacks l.list.told l.list.stacks));
  keeps : KeepsMore l.fn.ledger l.ledger;
}
