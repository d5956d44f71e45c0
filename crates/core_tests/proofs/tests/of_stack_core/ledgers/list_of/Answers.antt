use Rattle.std.proofs.Common.{ap}
use Rattle.stack_core.specs.Ledgers.{LedgerState}
use Rattle.core_tests.proofs.tests.of_stack_core.ledgers.list_of.Goals as goal

pub into_list-requires : goal.into_list-requires
into_list-requires c = (_, ap (λ (ledger : LedgerState). ledger.close) c.close.ensures)
