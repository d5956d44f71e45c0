-- What the fields of a message hold (protobuf encoding guide, "Last One Wins", "Repeated Elements" and "Packed Repeated Fields").
use Rattle.std.specs.Prelude.{ℕ, List, [], ◌∷◌, Option, Some, None, filter_map, flat_map, ◌==◌, if◌then◌else◌}
use Rattle.wire_fields.specs.Field.{WireField, WireValue, varint_value, eight_bytes, delimited_bytes, four_bytes}
use Rattle.wire_fields.specs.Reading.{fields_of, numbers_of}

-- the first item
abbrev pub first : {A : Type 0} → List A → Option A
first [] = None
first (x ∷ xs) = Some x

-- the last item, or d where there is none
abbrev pub last_or : {A : Type 0} → A → List A → A
last_or d [] = d
last_or d (x ∷ xs) = last_or x xs

-- ---- one field

abbrev pub varint_in : WireValue → Option ℕ
varint_in (varint_value n) = Some n
varint_in (eight_bytes part) = None
varint_in (delimited_bytes part) = None
varint_in (four_bytes part) = None

abbrev pub bytes_in : WireValue → Option (List ℕ)
bytes_in (varint_value n) = None
bytes_in (eight_bytes part) = None
bytes_in (delimited_bytes part) = Some part
bytes_in (four_bytes part) = None

-- the numbers of one field of a repeated number: a single value, or a packed run
abbrev pub numbers_in : WireValue → List ℕ
numbers_in (varint_value n) = n ∷ []
numbers_in (eight_bytes part) = []
numbers_in (delimited_bytes run) = (numbers_of run).items
numbers_in (four_bytes part) = []

-- ---- the fields of one number

-- a field that holds bytes: where its tag begins, and the bytes
pub record Content : Type 0 where
  pub at : ℕ
  pub bytes : List ℕ

abbrev pub content_from : ℕ → Option (List ℕ) → Option Content
content_from at None = None
content_from at (Some bytes) = Some (record { at = at; bytes = bytes })

-- a field's varint, where it has this number and holds one
abbrev pub scalar_from : ℕ → WireField → Option ℕ
scalar_from number field = if field.number == number then varint_in field.value else None

-- a field's bytes, where it has this number and holds some
abbrev pub content_of : ℕ → WireField → Option Content
content_of number field = if field.number == number then content_from field.at (bytes_in field.value) else None

-- a field's numbers, where it has this number
abbrev pub repeated_from : ℕ → WireField → List ℕ
repeated_from number field = if field.number == number then numbers_in field.value else []

-- ---- a message

-- a scalar: its last value, else 0
abbrev pub scalar : ℕ → List ℕ → ℕ
scalar number message = last_or 0 (filter_map (scalar_from number) (fields_of message).items)

-- the contents of the fields of a number, in order
abbrev pub contents : ℕ → List ℕ → List Content
contents number message = filter_map (content_of number) (fields_of message).items

-- a repeated number: single values and packed runs, each in its place
abbrev pub repeated_numbers : ℕ → List ℕ → List ℕ
repeated_numbers number message = flat_map (repeated_from number) (fields_of message).items
