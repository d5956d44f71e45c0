-- The ledger is not closed.
use Rattle.std.proofs.Common.{◌≡◌, None}
use Rattle.write_tests.proofs.tests.sources.fill.Given as goal

abbrev pub invariant-loop-names : goal.invariant-loop-names
invariant-loop-names l = l.ledger.close ≡ None
