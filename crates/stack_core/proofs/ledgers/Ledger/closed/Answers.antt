use Rattle.std.proofs.Common.{ap, ◌∙◌}
use Rattle.stack_core.specs.Ledgers.{LedgerState}
use Rattle.stack_core.proofs.ledgers.Ledger.closed.Goals as goal

pub returns : goal.returns
returns c = c.as_ref.ensures.value ∙ ap (λ (s : LedgerState). s.close) c.self.view_is
