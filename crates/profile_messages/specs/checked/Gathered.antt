-- The numbers of a sample as the code gathers them.
use Rattle.std.specs.Prelude.{◌≡◌, ℕ, List, ◌++◌, Option}
use Rattle.stack_core.specs.declared.endings.ReadKind.{ReadKind}
use Rattle.wire_fields.specs.Field.{WireValue}
use Rattle.wire_fields.specs.Reading.{numbers_of}
use Rattle.profile_messages.specs.Message.{first, numbers_in}
use Rattle.profile_messages.specs.Shapes.{faults_of_value, repeated_shape, kinds_of_fault}

-- the numbers of a packed run are behind the old ones, and its fault is answered
pub record IsRunGathered (run old new : List ℕ) (fault : Option ReadKind) : Type 0 where
  pub fault_is : fault ≡ first (kinds_of_fault (numbers_of run).fault)
  pub gathered : new ≡ old ++ (numbers_of run).items

-- the same of one field's value
pub record IsGathered (value : WireValue) (old new : List ℕ) (fault : Option ReadKind) : Type 0 where
  pub fault_is : fault ≡ first (faults_of_value repeated_shape value)
  pub gathered : new ≡ old ++ numbers_in value
