use Rattle.std.proofs.Common.{◌≡◌, List, Option, drop}
use Rattle.std.specs.Prelude.{flat_map}
use Rattle.std.specs.Fn.{FnReturnsAt}
use Rattle.stack_core.specs.declared.endings.ReadFault.{ReadFault}
use Rattle.profile_messages.specs.Message.{first}
use Rattle.profile_messages.proofs.strings.first_fault.Given as goal

abbrev pub invariant-loop-entry : goal.invariant-loop-entry
invariant-loop-entry g l =
    (faults : _ → List ReadFault)
    → ((entry : _) (fault : Option ReadFault) → FnReturnsAt g.F.Fn l.fault_of entry fault → fault ≡ first (faults entry))
    → first (flat_map faults (drop l.entry-index l.entries)) ≡ first (flat_map faults l.entries)
