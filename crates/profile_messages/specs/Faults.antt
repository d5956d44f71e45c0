-- Why tables can't be had, and the text of that.
use Rattle.std.specs.Prelude.{◌≡◌, ℕ, List, Some, codes}
use Rattle.stack_core.specs.Faults.{fault_text}
use Rattle.stack_core.specs.declared.endings.ReadFault.{ReadFault}
use Rattle.profile_messages.specs.Message.{first}
use Rattle.profile_messages.specs.declared.faults.TableFault.{TableFault}
use Rattle.profile_messages.specs.declared.faults.TableFault.TheVariants.{Read, OutOfMemory}

-- a fault of the file is the first of these
abbrev pub IsFirstOf : List ReadFault → TableFault → Type 0
IsFirstOf faults (Read fault) = first faults ≡ Some fault
IsFirstOf faults OutOfMemory = Unit {0}

abbrev pub table_fault_text : TableFault → List ℕ
table_fault_text (Read fault) = fault_text fault
table_fault_text OutOfMemory = codes "out of memory"
