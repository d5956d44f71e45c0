-- A field as plain data, without where its bytes lie in memory.
use Rattle.std.specs.Prelude.{ℕ, List}
use Rattle.wire_fields.specs.declared.field.Field.{Field}
use Rattle.wire_fields.specs.declared.field.FieldValue.{FieldValue}
use Rattle.wire_fields.specs.declared.field.FieldValue.TheVariants.{Varint, Eight, Bytes, Four}

pub data WireValue : Type 0 where
  varint_value : ℕ → WireValue
  eight_bytes : List ℕ → WireValue
  delimited_bytes : List ℕ → WireValue
  four_bytes : List ℕ → WireValue

pub record WireField : Type 0 where
  pub number : ℕ
  -- the length of what stands before the field
  pub at : ℕ
  pub value : WireValue

abbrev pub seen_value : FieldValue → WireValue
seen_value (Varint n) = varint_value n
seen_value (Eight part) = eight_bytes part
seen_value (Bytes part) = delimited_bytes part.now
seen_value (Four part) = four_bytes part

-- the field that a `Field` is
abbrev pub seen_field : Field → WireField
seen_field f = record { number = f.number; at = f.at; value = seen_value f.value }
