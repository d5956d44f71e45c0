-- The front of a sample: its location ids as one packed run, its first field.
use Rattle.std.specs.Prelude.{◌≡◌, ◌≤◌, ◌+◌, ℕ, List, [], ◌∷◌, None, length, flat_map, slice_range, ◌==◌, if◌then◌else◌}
use Rattle.wire_fields.specs.Field.{WireField, delimited_bytes}
use Rattle.wire_fields.specs.Reading.{Left, fields_of, numbers_of}
use Rattle.profile_tables.specs.declared.fronts.Values.{Values}
use Rattle.profile_messages.specs.declared.messages.Span.{Span}
use Rattle.profile_messages.specs.Message.{first, repeated_from}
use Rattle.profile_messages.specs.Shapes.{faults_in, faults_of_field, sample_shape, kinds_of_fault}
use Rattle.profile_tables.specs.Samples.{SampleTables, location_ids, values_of, weight_of}
use Rattle.profile_messages.specs.Offsets.{content_at}

-- the bytes of a part of a list
abbrev pub bytes_at : List ℕ → Span → List ℕ
bytes_at bytes span = slice_range bytes span.start span.end

-- the first field of a message has this number and holds the bytes at this place, and this is left behind it
pub record IsFirstHeld (message : List ℕ) (number : ℕ) (place : Span) (behind : Left WireField) : Type 0 where
  pub order : place.start ≤ place.end
  pub within : place.end ≤ length message
  pub field : WireField
  pub fields : fields_of message ≡ record { items = field ∷ behind.items; fault = behind.fault }
  pub number_is : field.number ≡ number
  pub holds : field.value ≡ delimited_bytes (bytes_at message place)

-- ---- values, one after another

-- a further value
abbrev pub with_value : ℕ → Values → ℕ → Values
with_value chosen values value =
    record { count = values.count + 1; weight = if values.count == chosen then value else values.weight }

abbrev pub with_values : ℕ → Values → List ℕ → Values
with_values chosen values [] = values
with_values chosen values (value ∷ more) = with_values chosen (with_value chosen values value) more

abbrev pub no_values : Values
no_values = record { count = 0; weight = 0 }

-- the values of these fields, which have no location ids and no fault
pub record AreValuesIn (chosen : ℕ) (left : Left WireField) (values : Values) : Type 0 where
  pub no_fault : first (flat_map (faults_of_field sample_shape) left.items) ≡ None
  pub no_end_fault : left.fault ≡ None
  pub no_ids : flat_map (repeated_from 1) left.items ≡ []
  pub values_are : values ≡ with_values chosen no_values (flat_map (repeated_from 2) left.items)

-- ---- a front

-- the location ids of the sample at a place are those of the run, and its values have this weight and no fault
pub record IsFront (file : List ℕ) (at : ℕ) (tables : SampleTables) (run : Span) (weight : ℕ) : Type 0 where
  pub order : run.start ≤ run.end
  pub within : run.end ≤ length file
  pub faults : first (faults_in sample_shape (content_at file at)) ≡ first (kinds_of_fault (numbers_of (bytes_at file run)).fault)
  pub ids : location_ids (content_at file at) ≡ (numbers_of (bytes_at file run)).items
  pub count : length (values_of (content_at file at)) ≡ tables.sample_types
  pub weight_is : weight ≡ weight_of tables.chosen (content_at file at)
