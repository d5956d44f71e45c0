use Rattle.std.proofs.Common.{ap, ◌∙◌}
use Rattle.sample_tables.specs.Rows.{name_at}
use Rattle.stack_core.specs.Ledgers.{LedgerState}
use Rattle.stack_core.proofs.ledgers.Ledger.told_name.Goals as goal

pub returns : goal.returns
returns c = c.name.ensures ∙ ap (λ (s : LedgerState). name_at s.told c.args.k) c.self.view_is
