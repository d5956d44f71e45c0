use Rattle.ring_collect.specs.checked.Settlement.{AreListsOf}
use Rattle.ring_collect.proofs.runs.lists_of.Given as goal

abbrev pub invariant-loop-ledger : goal.invariant-loop-ledger
invariant-loop-ledger l = AreListsOf l.yielded l.lists.items
