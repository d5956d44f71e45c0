-- Worked rows, computed on the definitions.
use Rattle.std.proofs.Common.{◌≡◌, ℕ, List, [], ◌∷◌, Some, None, refl}
use Rattle.wire_fields.specs.declared.fault.WireKind.{WireKind}
use Rattle.wire_fields.specs.declared.fault.WireKind.TheVariants.{Truncated, BadVarint, BadFieldNumber, BadWireType}
use Rattle.wire_fields.specs.Varint.{varint_within}
use Rattle.wire_fields.specs.Field.{WireValue, varint_value, eight_bytes, delimited_bytes, four_bytes, WireField}
use Rattle.wire_fields.specs.Reading.{Left, value_at, field_at, left_at, fields_of, numbers_of}

abbrev field : ℕ → ℕ → WireValue → WireField
field number at value = record { number = number; at = at; value = value }

abbrev all : {A : Type 0} → List A → Left A
all items = record { items = items; fault = None }

abbrev until : {A : Type 0} → List A → WireKind → ℕ → Left A
until items kind at = record { items = items; fault = Some (record { kind = kind; at = at }) }

-- ---- fields_and_packed

pub one_varint : fields_of (0x08 ∷ 0x96 ∷ 0x01 ∷ []) ≡ all (field 1 0 (varint_value 150) ∷ [])
unfolding fields_of left_at field_at value_at varint_within
one_varint = refl

pub greatest_number : fields_of (0xf8 ∷ 0xff ∷ 0xff ∷ 0xff ∷ 0x0f ∷ 0x00 ∷ []) ≡ all (field 536870911 0 (varint_value 0) ∷ [])
unfolding fields_of left_at field_at value_at varint_within
greatest_number = refl

pub tag_of_33_bits : fields_of (0x80 ∷ 0x80 ∷ 0x80 ∷ 0x80 ∷ 0x10 ∷ 0x00 ∷ []) ≡ until [] BadFieldNumber 0
unfolding fields_of left_at field_at value_at varint_within
tag_of_33_bits = refl

pub greatest_varint : fields_of (0x08 ∷ 0xff ∷ 0xff ∷ 0xff ∷ 0xff ∷ 0xff ∷ 0xff ∷ 0xff ∷ 0xff ∷ 0xff ∷ 0x01 ∷ []) ≡ all (field 1 0 (varint_value 0xffffffffffffffff) ∷ [])
unfolding fields_of left_at field_at value_at varint_within
greatest_varint = refl

pub varint_of_65_bits : fields_of (0x08 ∷ 0xff ∷ 0xff ∷ 0xff ∷ 0xff ∷ 0xff ∷ 0xff ∷ 0xff ∷ 0xff ∷ 0xff ∷ 0x02 ∷ []) ≡ until [] BadVarint 0
unfolding fields_of left_at field_at value_at varint_within
varint_of_65_bits = refl

pub three_numbers : numbers_of (0x01 ∷ 0x80 ∷ 0x00 ∷ 0xac ∷ 0x02 ∷ []) ≡ all (1 ∷ 0 ∷ 300 ∷ [])
unfolding numbers_of left_at varint_within
three_numbers = refl

pub cut_number : numbers_of (0x80 ∷ []) ≡ until [] Truncated 0
unfolding numbers_of left_at varint_within
cut_number = refl

-- ---- greatest_length_and_least_index

pub greatest_length : fields_of (0x0a ∷ 0xff ∷ 0xff ∷ 0xff ∷ 0xff ∷ 0xff ∷ 0xff ∷ 0xff ∷ 0xff ∷ 0xff ∷ 0x01 ∷ []) ≡ until [] Truncated 0
unfolding fields_of left_at field_at value_at varint_within
greatest_length = refl

-- ---- each_wire_type

pub each_type : fields_of (0x12 ∷ 0x07 ∷ 0x74 ∷ 0x65 ∷ 0x73 ∷ 0x74 ∷ 0x69 ∷ 0x6e ∷ 0x67 ∷ 0x19 ∷ 1 ∷ 2 ∷ 3 ∷ 4 ∷ 5 ∷ 6 ∷ 7 ∷ 8 ∷ 0x25 ∷ 9 ∷ 10 ∷ 11 ∷ 12 ∷ 0x2b ∷ 0x2c ∷ []) ≡ until (
    field 2 0 (delimited_bytes (0x74 ∷ 0x65 ∷ 0x73 ∷ 0x74 ∷ 0x69 ∷ 0x6e ∷ 0x67 ∷ []))
    ∷ field 3 9 (eight_bytes (1 ∷ 2 ∷ 3 ∷ 4 ∷ 5 ∷ 6 ∷ 7 ∷ 8 ∷ []))
    ∷ field 4 18 (four_bytes (9 ∷ 10 ∷ 11 ∷ 12 ∷ []))
    ∷ []) BadWireType 23
unfolding fields_of left_at field_at value_at varint_within
each_type = refl
