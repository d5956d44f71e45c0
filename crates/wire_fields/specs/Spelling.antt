-- Which bytes spell a field, a list of fields and a packed run of numbers (protobuf encoding guide, "Message Structure").
-- A relation, apart from any way to read.
use Rattle.std.specs.Prelude.{◌≡◌, ℕ, ◌+◌, ◌*◌, ◌≤◌, List, [], ◌∷◌, ◌++◌, length}
use Rattle.wire_fields.specs.Varint.{IsVarintOf}
use Rattle.wire_fields.specs.Field.{WireValue, varint_value, eight_bytes, delimited_bytes, four_bytes, WireField}

-- the wire type of a value
abbrev pub wire_type : WireValue → ℕ
wire_type (varint_value n) = 0
wire_type (eight_bytes part) = 1
wire_type (delimited_bytes part) = 2
wire_type (four_bytes part) = 5

-- The bytes behind the tag: a varint; eight bytes; a varint of n, and n bytes; four bytes.
abbrev pub IsValueOf : WireValue → List ℕ → Type 0
IsValueOf (varint_value n) bytes = IsVarintOf n bytes
IsValueOf (eight_bytes part) bytes = (length part ≡ 8) × (bytes ≡ part)
IsValueOf (delimited_bytes part) bytes = (len : List ℕ) × IsVarintOf (length part) len × (bytes ≡ len ++ part)
IsValueOf (four_bytes part) bytes = (length part ≡ 4) × (bytes ≡ part)

-- The bytes are a tag, a varint of number * 8 + wire type, and then the value. Numbers are 1 to 536,870,911.
pub record IsFieldOf (field : WireField) (bytes : List ℕ) : Type 0 where
  pub positive : 1 ≤ field.number
  pub in_range : field.number ≤ 536870911
  pub tag : List ℕ
  pub value : List ℕ
  pub parts : bytes ≡ tag ++ value
  pub is_tag : IsVarintOf (field.number * 8 + wire_type field.value) tag
  pub is_value : IsValueOf field.value value

-- From place `at` on, the bytes are one spelling of each item, one after another.
-- `IsAt at x bytes` says that the bytes spell x at that place.
abbrev pub Concatenates : {A : Type 0} → (ℕ → A → List ℕ → Type 0) → ℕ → List A → List ℕ → Type 0
Concatenates IsAt at [] bytes = bytes ≡ []
Concatenates IsAt at (x ∷ xs) bytes =
    (front : List ℕ) × (rest : List ℕ) × (bytes ≡ front ++ rest) × IsAt at x front × Concatenates IsAt (at + length front) xs rest

-- A field's `at` is the length of what stands before it.
pub record IsFieldAt (at : ℕ) (field : WireField) (bytes : List ℕ) : Type 0 where
  pub place : field.at ≡ at
  pub spelled : IsFieldOf field bytes

-- A number of a packed run stands anywhere.
abbrev pub IsNumberAt : ℕ → ℕ → List ℕ → Type 0
IsNumberAt at n bytes = IsVarintOf n bytes

-- The bytes spell the list of fields.
abbrev pub Spells : List WireField → List ℕ → Type 0
Spells fields bytes = Concatenates IsFieldAt 0 fields bytes

-- The bytes, a packed run, spell the list of numbers.
abbrev pub SpellsNumbers : List ℕ → List ℕ → Type 0
SpellsNumbers numbers bytes = Concatenates IsNumberAt 0 numbers bytes
