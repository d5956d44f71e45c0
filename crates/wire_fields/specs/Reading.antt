-- Reading from left to right, and what it means: the longest front that spells a list, then the end or the first fault.
use Rattle.std.specs.Prelude.{◌≡◌, ◌≢◌, ℕ, zero, suc, ◌+◌, ◌-◌, ◌/◌, ◌%◌, ◌^◌, ◌≤◌, List, [], ◌∷◌, ◌++◌, length, take, drop, Option, Some, None, Result, Ok, Err, nat_lt, nat_le, ◌==◌, ◌||◌, if◌then◌else◌}
use Rattle.wire_fields.specs.declared.fault.WireKind.{WireKind}
use Rattle.wire_fields.specs.declared.fault.WireKind.TheVariants.{Truncated, BadFieldNumber, BadWireType}
use Rattle.wire_fields.specs.declared.fault.WireFault.{WireFault}
use Rattle.wire_fields.specs.Steps.{◌>>=◌}
use Rattle.wire_fields.specs.Varint.{varint_at}
use Rattle.wire_fields.specs.Field.{WireValue, varint_value, eight_bytes, delimited_bytes, four_bytes, WireField}
use Rattle.wire_fields.specs.Spelling.{Concatenates, IsFieldAt, IsNumberAt}
use Rattle.wire_fields.specs.Fault.{FirstVarintFault, FirstFault}

-- ---- what is left to read

-- The items still to come, and then the fault, if there is one.
pub record Left (A : Type 0) : Type 0 where
  pub items : List A
  pub fault : Option WireFault

-- At a place where nothing is left there is no fault. Else the fault lies there, and is the first one of the bytes left.
abbrev pub EndsAt : (List ℕ → WireKind → Type 0) → ℕ → List ℕ → Option WireFault → Type 0
EndsAt First at rest None = rest ≡ []
EndsAt First at rest (Some fault) = (rest ≢ []) × (fault.at ≡ at) × First rest fault.kind

-- The items are those of the longest front that spells a list, and the ending is that of the bytes behind it.
pub record IsReading {A : Type 0} (IsAt : ℕ → A → List ℕ → Type 0) (First : List ℕ → WireKind → Type 0) (bytes : List ℕ) (left : Left A) : Type 0 where
  pub front : List ℕ
  pub rest : List ℕ
  pub parts : bytes ≡ front ++ rest
  pub spelled : Concatenates IsAt 0 left.items front
  pub longest : (longer others : List ℕ) (items : List A) → bytes ≡ longer ++ others → Concatenates IsAt 0 items longer → length longer ≤ length front
  pub ending : EndsAt First (length front) rest left.fault

abbrev pub IsReadingOfFields : List ℕ → Left WireField → Type 0
IsReadingOfFields bytes left = IsReading IsFieldAt FirstFault bytes left

abbrev pub IsReadingOfNumbers : List ℕ → Left ℕ → Type 0
IsReadingOfNumbers bytes left = IsReading IsNumberAt FirstVarintFault bytes left

-- ---- the same as functions

-- the first n bytes, and the bytes after them
abbrev pub part_at : ℕ → List ℕ → Result (List ℕ × List ℕ) WireKind
part_at n bytes = if nat_lt (length bytes) n then Err Truncated else Ok (take n bytes, drop n bytes)

-- the value of a wire type, and the bytes after it
unfoldable pub value_at : ℕ → List ℕ → Result (WireValue × List ℕ) WireKind
value_at type bytes =
    if type == 0 then (varint_at bytes >>= λ n. Ok (varint_value n.0, n.1))
    else if type == 1 then (part_at 8 bytes >>= λ part. Ok (eight_bytes part.0, part.1))
    else if type == 2 then (varint_at bytes >>= λ n. part_at n.0 n.1 >>= λ part. Ok (delimited_bytes part.0, part.1))
    else if type == 5 then (part_at 4 bytes >>= λ part. Ok (four_bytes part.0, part.1))
    else Err BadWireType

-- the field at a place, of which these are the bytes, and the bytes after it
unfoldable pub field_at : ℕ → List ℕ → Result (WireField × List ℕ) WireKind
field_at at bytes = varint_at bytes >>= λ tag.
    if nat_lt tag.0 8 || nat_le (2 ^ 32) tag.0 then Err BadFieldNumber
    else (value_at (tag.0 % 8) tag.1 >>= λ value.
    Ok (record { number = tag.0 / 8; at = at; value = value.0 }, value.1))

-- the number at a place of a packed run
abbrev pub number_at : ℕ → List ℕ → Result (ℕ × List ℕ) WireKind
number_at at bytes = varint_at bytes

-- What is read from place `at` on, by a function for one item. The first `skip` bytes belong to the item before.
unfoldable pub left_at : {A : Type 0} → (ℕ → List ℕ → Result (A × List ℕ) WireKind) → ℕ → ℕ → List ℕ → Left A
left_at read at skip [] = record { items = []; fault = None }
left_at read at (suc skip) (byte ∷ bytes) = left_at read (at + 1) skip bytes
left_at read at zero (byte ∷ bytes) = elim (read at (byte ∷ bytes)) [
  | Ok found ↦
      let later = left_at read (at + 1) (length bytes - length found.1) bytes in
      record { items = found.0 ∷ later.items; fault = later.fault }
  | Err kind ↦ record { items = []; fault = Some (record { kind = kind; at = at }) }
]

-- the fields of bytes, and the fault behind them
unfoldable pub fields_of : List ℕ → Left WireField
fields_of bytes = left_at field_at 0 0 bytes

-- the numbers of a packed run, and the fault behind them
unfoldable pub numbers_of : List ℕ → Left ℕ
numbers_of bytes = left_at number_at 0 0 bytes

-- where the first of these fields begins, or the fault lies that stands in its place
abbrev pub next_place : List WireField → Option WireFault → Option ℕ
next_place [] None = None
next_place [] (Some fault) = Some fault.at
next_place (field ∷ behind) fault = Some field.at

-- ---- one call of `next`

-- Old is what was left before an answer, and new what is left after it.
abbrev pub Answers : {X A : Type 0} → (X → A) → Result (Option X) WireFault → Left A → Left A → Type 0
Answers view (Ok (Some x)) old new = old ≡ record { items = view x ∷ new.items; fault = new.fault }
Answers view (Ok None) old new = (old ≡ record { items = []; fault = None }) × (new ≡ old)
Answers view (Err fault) old new = (old ≡ record { items = []; fault = Some fault }) × (new ≡ old)
