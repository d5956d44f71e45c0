use Rattle.std.proofs.Common.{ap}
use Rattle.stack_core.specs.declared.endings.SourceEnd.TheVariants.{Clean}
use Rattle.stack_core.specs.Ledgers.{LedgerState}
use Rattle.merge_tests.proofs.tests.sources.close_read.Goals as goal

pub returns : goal.returns
returns g c = (Clean 0, ap (λ (state : LedgerState). state.close) c.close.ensures)
