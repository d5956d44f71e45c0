-- What is wrong with bytes that begin with no field, or with no number: the first fault, in the order in which they are looked for.
use Rattle.std.specs.Prelude.{◌≡◌, ℕ, ◌/◌, ◌%◌, ◌^◌, ◌<◌, ◌≤◌, ◌⊎◌, List, ◌++◌, length}
use Rattle.wire_fields.specs.declared.fault.WireKind.{WireKind}
use Rattle.wire_fields.specs.declared.fault.WireKind.TheVariants.{Truncated, BadVarint, BadFieldNumber, BadWireType}
use Rattle.wire_fields.specs.Varint.{IsVarintOf, EndInside, HasBadTenth}

-- The fault of bytes that begin with no varint.
pub data FirstVarintFault (bytes : List ℕ) : WireKind → Type 0 where
  end_inside : EndInside bytes → FirstVarintFault bytes Truncated
  bad_tenth : HasBadTenth bytes → FirstVarintFault bytes BadVarint

-- The bytes begin with a spelling of n, and `rest` stands behind it.
pub record BeginsWith (n : ℕ) (rest bytes : List ℕ) : Type 0 where
  pub spelling : List ℕ
  pub is_varint : IsVarintOf n spelling
  pub parts : bytes ≡ spelling ++ rest

-- A tag has a number from 1 on, and is at most 2 ^ 32 - 1.
pub record IsTagInRange (tag : ℕ) : Type 0 where
  pub number : 1 ≤ tag / 8
  pub below : tag < 2 ^ 32

-- Wire types 3, 4, 6 and 7: groups, and those that there are not.
abbrev pub IsUnknownType : ℕ → Type 0
IsUnknownType type = (type ≡ 3) ⊎ (type ≡ 4) ⊎ (type ≡ 6) ⊎ (type ≡ 7)

-- The bytes behind a tag of this wire type hold no such value.
pub data FirstValueFault (type : ℕ) (bytes : List ℕ) : WireKind → Type 0 where
  bad_varint : {kind : WireKind} → type ≡ 0 → FirstVarintFault bytes kind → FirstValueFault type bytes kind
  fewer_than_eight : type ≡ 1 → length bytes < 8 → FirstValueFault type bytes Truncated
  bad_length : {kind : WireKind} → type ≡ 2 → FirstVarintFault bytes kind → FirstValueFault type bytes kind
  fewer_than_length : type ≡ 2 → (n : ℕ) (rest : List ℕ) → BeginsWith n rest bytes → length rest < n → FirstValueFault type bytes Truncated
  fewer_than_four : type ≡ 5 → length bytes < 4 → FirstValueFault type bytes Truncated

-- The first fault of bytes that begin with no field.
pub data FirstFault (bytes : List ℕ) : WireKind → Type 0 where
  bad_tag : {kind : WireKind} → FirstVarintFault bytes kind → FirstFault bytes kind
  bad_field_number : (tag : ℕ) (rest : List ℕ) → BeginsWith tag rest bytes → ((2 ^ 32 ≤ tag) ⊎ (tag / 8 ≡ 0)) → FirstFault bytes BadFieldNumber
  bad_wire_type : (tag : ℕ) (rest : List ℕ) → BeginsWith tag rest bytes → IsTagInRange tag → IsUnknownType (tag % 8) → FirstFault bytes BadWireType
  bad_value : {kind : WireKind} → (tag : ℕ) (rest : List ℕ) → BeginsWith tag rest bytes → IsTagInRange tag → FirstValueFault (tag % 8) rest kind → FirstFault bytes kind
