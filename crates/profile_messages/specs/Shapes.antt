-- The messages of profile.proto, as far as they are read: which fields each has, with which wire types, and the faults of a message's
-- fields, in order.
use Rattle.std.specs.Prelude.{ℕ, List, [], ◌∷◌, ◌++◌, Option, Some, None, map, flat_map, nat_le, ◌==◌, ◌&&◌, ◌||◌, if◌then◌else◌}
use Rattle.stack_core.specs.declared.endings.ReadKind.{ReadKind}
use Rattle.stack_core.specs.declared.endings.ReadKind.TheVariants as read
use Rattle.stack_core.specs.declared.endings.ReadFault.{ReadFault}
use Rattle.wire_fields.specs.declared.fault.WireKind.{WireKind}
use Rattle.wire_fields.specs.declared.fault.WireKind.TheVariants as wire
use Rattle.wire_fields.specs.declared.fault.WireFault.{WireFault}
use Rattle.wire_fields.specs.Field.{WireField, WireValue, varint_value, eight_bytes, delimited_bytes, four_bytes}
use Rattle.wire_fields.specs.Reading.{fields_of, numbers_of}

abbrev pub kind_of : WireKind → ReadKind
kind_of wire.Truncated = read.Truncated
kind_of wire.BadVarint = read.BadVarint
kind_of wire.BadFieldNumber = read.BadFieldNumber
kind_of wire.BadWireType = read.BadWireType

abbrev pub kinds_of_fault : Option WireFault → List ReadKind
kinds_of_fault None = []
kinds_of_fault (Some fault) = kind_of fault.kind ∷ []

-- What a message reads of a field: nothing, a varint, a number that may be packed, or bytes, whose content has faults of its own.
pub data Shape : Type 0 where
  skipped : Shape
  scalar_shape : Shape
  repeated_shape : Shape
  content_shape : (List ℕ → List ReadKind) → Shape

-- the faults of one field that is read so
abbrev pub faults_of_value : Shape → WireValue → List ReadKind
faults_of_value skipped value = []
faults_of_value scalar_shape (varint_value n) = []
faults_of_value scalar_shape (eight_bytes part) = read.WrongKind ∷ []
faults_of_value scalar_shape (delimited_bytes part) = read.WrongKind ∷ []
faults_of_value scalar_shape (four_bytes part) = read.WrongKind ∷ []
faults_of_value repeated_shape (varint_value n) = []
faults_of_value repeated_shape (eight_bytes part) = read.WrongKind ∷ []
faults_of_value repeated_shape (delimited_bytes run) = kinds_of_fault (numbers_of run).fault
faults_of_value repeated_shape (four_bytes part) = read.WrongKind ∷ []
faults_of_value (content_shape inside) (varint_value n) = read.WrongKind ∷ []
faults_of_value (content_shape inside) (eight_bytes part) = read.WrongKind ∷ []
faults_of_value (content_shape inside) (delimited_bytes part) = inside part
faults_of_value (content_shape inside) (four_bytes part) = read.WrongKind ∷ []

abbrev pub faults_of_field : (ℕ → Shape) → WireField → List ReadKind
faults_of_field shape field = faults_of_value (shape field.number) field.value

-- the faults of a message: those of its fields, in order, and then the one behind them
abbrev pub faults_in : (ℕ → Shape) → List ℕ → List ReadKind
faults_in shape message =
    flat_map (faults_of_field shape) (fields_of message).items ++ kinds_of_fault (fields_of message).fault

-- ---- the messages

-- scalars, from 1 on
abbrev pub scalars_shape : ℕ → ℕ → Shape
scalars_shape most number = if nat_le 1 number && nat_le number most then scalar_shape else skipped

-- `type` 1 and `unit` 2
abbrev pub value_type_shape : ℕ → Shape
value_type_shape = scalars_shape 2

-- `location_id` 1 and `value` 2
abbrev pub sample_shape : ℕ → Shape
sample_shape number = if nat_le 1 number && nat_le number 2 then repeated_shape else skipped

-- `function_id` 1 and `line` 2
abbrev pub line_shape : ℕ → Shape
line_shape = scalars_shape 2

-- `id` 1, `name` 2 and `system_name` 3
abbrev pub function_shape : ℕ → Shape
function_shape = scalars_shape 3

-- `id` 1, `address` 3 and `line` 4
abbrev pub location_shape : ℕ → Shape
location_shape number =
    if number == 1 || number == 3 then scalar_shape
    else if number == 4 then content_shape (faults_in line_shape)
    else skipped

-- `sample_type` 1, `sample` 2, whose content is looked at later, `location` 4, `function` 5, `string_table` 6 and
-- `default_sample_type` 14
abbrev pub profile_shape : ℕ → Shape
profile_shape number =
    if number == 1 then content_shape (faults_in value_type_shape)
    else if number == 2 then content_shape (λ sample. [])
    else if number == 4 then content_shape (faults_in location_shape)
    else if number == 5 then content_shape (faults_in function_shape)
    else if number == 6 then content_shape (λ text. [])
    else if number == 14 then scalar_shape
    else skipped

-- ---- the file

abbrev pub fault_at : ℕ → ReadKind → ReadFault
fault_at at kind = record { kind = kind; at = at }

abbrev pub faults_of_top_field : WireField → List ReadFault
faults_of_top_field field = map (fault_at field.at) (faults_of_field profile_shape field)

abbrev pub faults_behind : Option WireFault → List ReadFault
faults_behind None = []
faults_behind (Some fault) = fault_at fault.at (kind_of fault.kind) ∷ []

-- the faults of the profile's fields and of the messages in them, in file order
abbrev pub field_faults : List ℕ → List ReadFault
field_faults file = flat_map faults_of_top_field (fields_of file).items ++ faults_behind (fields_of file).fault
