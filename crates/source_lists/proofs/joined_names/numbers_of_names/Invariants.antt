use Rattle.std.proofs.Common.{[], take}
use Rattle.source_lists.specs.checked.Joining.{AreFound, TellsMore}
use Rattle.source_lists.proofs.joined_names.numbers_of_names.Given as goal

abbrev pub invariant-loop-at : goal.invariant-loop-at
invariant-loop-at l = record {
  found : AreFound [] l.ledger.told l.numbers.items (take l.at l.list.told);
  tells : TellsMore l.fn.ledger l.ledger;
}
