use Rattle.std.proofs.Common.{ap}
use Rattle.std.specs.Prelude.{Some}
use Rattle.stack_core.specs.Ledgers.{LedgerState}
use Rattle.stack_core.proofs.ledgers.Ledger.close.Goals as goal

pub returns : goal.returns
returns c = ap (λ (s : LedgerState). record s { close = Some c.args.close }) c.self.view_is
