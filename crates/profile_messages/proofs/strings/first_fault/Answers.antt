use Rattle.std.proofs.Common.{◌∙◌, arith, refl, sym}
use Rattle.std.proofs.lemmas.Fn.{says_at}
use Rattle.profile_messages.proofs.FirstLemmas.{first-found, first-from, first-not_found}
use Rattle.profile_messages.proofs.strings.first_fault.Goals as goal

pub returns-then-is_some : goal.returns-then-is_some
returns-then-is_some g c = λ faults is.
    first-found _ _ _ (is c.entry-item.result c.fault_of-fault.result (says_at g.F.Fn c.fault_of-fault.ensures refl)) c.if-is_some.ensures
    ∙ first-from faults c.args.entries.now c.loop-entry.entry-index c.entry-item.result (omega arith) c.entry-item.is ∙ c.loop-entry.invariant faults is

pub loop-entry-preserved : goal.loop-entry-preserved
loop-entry-preserved g c = λ faults is.
    sym (first-not_found _ _ _ (is c.entry-item.result c.fault_of-fault.result (says_at g.F.Fn c.fault_of-fault.ensures refl)) c.if-is_some.ensures)
    ∙ first-from faults c.args.entries.now c.loop-entry.entry-index c.entry-item.result (omega arith) c.entry-item.is ∙ c.loop-entry.invariant faults is
