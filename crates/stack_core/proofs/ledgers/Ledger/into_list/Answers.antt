use Rattle.std.proofs.Common.{◌≡◌, Some, ap, sym, ◌∙◌}
use Rattle.stack_core.specs.Ledgers.{LedgerState}
use Rattle.stack_core.specs.declared.endings.Close.TheVariants.{Read}
use Rattle.stack_core.proofs.ledgers.Ledger.into_list.Goals as goal

pub returns-clause-close : goal.returns-clause-close
returns-clause-close c =
    let close : c.self.inside.close ≡ Some c.in-Some-Read.field-0 = c.in-Some-Read.is in
    let read : c.in-Some-Read.field-0 ≡ Read c.in-Some-Read.ending = rw c.in-Some-Read.is at c.in-Some-Read.field-0-is in
    sym (ap (λ (s : LedgerState). s.close) c.self.view_is) ∙ close ∙ ap Some (read ∙ ap Read (sym c.of.ensures.ending))
