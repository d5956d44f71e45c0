-- What decoding a message answers: the record, or the message's first fault.
use Rattle.std.specs.Prelude.{◌≡◌, ℕ, List, ◌++◌, length, map, Option, Some, None, unwrap_or, option_to_list, Result, Ok, Err}
use Rattle.stack_core.specs.declared.endings.ReadKind.{ReadKind}
use Rattle.wire_fields.specs.Field.{WireValue}
use Rattle.profile_messages.specs.declared.messages.Line.{Line}
use Rattle.profile_messages.specs.declared.messages.Location.{Location as CodeLocation}
use Rattle.profile_messages.specs.declared.messages.Scalars.{Scalars}
use Rattle.profile_messages.specs.Message.{first, varint_in, bytes_in, scalar}
use Rattle.profile_messages.specs.Shapes.{Shape, scalar_shape, content_shape, faults_of_value, faults_in, line_shape, location_shape, scalars_shape}
use Rattle.profile_messages.specs.Records.{line_in, lines_in}

-- a scalar has the value of one more of its fields, where that is none of a fault
pub record IsScalarSet (value : WireValue) (old new : ℕ) (fault : Option ReadKind) : Type 0 where
  pub fault_is : fault ≡ first (faults_of_value scalar_shape value)
  pub set : new ≡ unwrap_or (varint_in value) old

abbrev pub IsDecoded : {A : Type 0} → (ℕ → Shape) → (List ℕ → A) → List ℕ → Result A ReadKind → Type 0
IsDecoded shape decoded message (Ok found) = (first (faults_in shape message) ≡ None) × (found ≡ decoded message)
IsDecoded shape decoded message (Err kind) = first (faults_in shape message) ≡ Some kind

-- what two or three scalars of a message are, where the message has no fault
pub record IsEachScalar (most : ℕ) (message : List ℕ) (scalars : Scalars) : Type 0 where
  pub faultless : first (faults_in (scalars_shape most) message) ≡ None
  pub first_is : scalars.first ≡ scalar 1 message
  pub second_is : scalars.second ≡ scalar 2 message
  pub third_is : most ≡ 3 → scalars.third ≡ scalar 3 message

abbrev pub AreScalars : ℕ → List ℕ → Result Scalars ReadKind → Type 0
AreScalars most message (Ok scalars) = IsEachScalar most message scalars
AreScalars most message (Err kind) = first (faults_in (scalars_shape most) message) ≡ Some kind

-- the lines have one more, which a field holds, where that has no fault
pub record IsLineAppended (value : WireValue) (old new : List Line) (fault : Option ReadKind) : Type 0 where
  pub fault_is : fault ≡ first (faults_of_value (content_shape (faults_in line_shape)) value)
  pub appended : fault ≡ None → new ≡ old ++ map line_in (option_to_list (bytes_in value))

-- the location's lines are behind the old ones
pub record IsLocationOf (tag : ℕ) (message : List ℕ) (old new : List Line) (location : CodeLocation) : Type 0 where
  pub faultless : first (faults_in location_shape message) ≡ None
  pub at : location.at ≡ tag
  pub id : location.id ≡ scalar 1 message
  pub address : location.address ≡ scalar 3 message
  pub lines : new ≡ old ++ lines_in message
  pub start : location.lines.start ≡ length old
  pub past : location.lines.end ≡ length new

abbrev pub IsLocationDecoded : ℕ → List ℕ → List Line → List Line → Result CodeLocation ReadKind → Type 0
IsLocationDecoded at message old new (Ok location) = IsLocationOf at message old new location
IsLocationDecoded at message old new (Err kind) = first (faults_in location_shape message) ≡ Some kind
