use Rattle.std.proofs.Common.{ap}
use Rattle.stack_core.specs.declared.endings.SourceEnd.TheVariants.{Clean}
use Rattle.stack_core.specs.Ledgers.{LedgerState}
use Rattle.write_tests.proofs.tests.sources.fill.Goals as goal

pub returns : goal.returns
returns c = (Clean 0, ap (λ (state : LedgerState). state.close) c.close.ensures)
