-- The numbers of a sample's message as the code has them.
use Rattle.std.specs.Prelude.{◌≡◌, ℕ, List, Some, None, Result, Ok, Err}
use Rattle.stack_core.specs.declared.endings.ReadKind.{ReadKind}
use Rattle.profile_messages.specs.declared.numbers.Numbers.{Numbers}
use Rattle.profile_messages.specs.Message.{first, repeated_numbers}
use Rattle.profile_messages.specs.Shapes.{faults_in, sample_shape}

-- the numbers of a message without a fault, and else its first fault
abbrev pub AreNumbersOf : List ℕ → Result Numbers ReadKind → Type 0
AreNumbersOf message (Ok numbers) =
    (first (faults_in sample_shape message) ≡ None)
    × (numbers.ids.items ≡ repeated_numbers 1 message)
    × (numbers.values.items ≡ repeated_numbers 2 message)
AreNumbersOf message (Err kind) = first (faults_in sample_shape message) ≡ Some kind
