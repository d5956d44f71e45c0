-- Varints (protobuf encoding guide, "Base 128 Varints"): groups of seven bits, the lowest first.
-- Each byte but the last has its top bit set. 64 bits take at most ten bytes, and the tenth holds one bit.
use Rattle.std.specs.Prelude.{◌≡◌, ℕ, zero, suc, ◌+◌, ◌*◌, ◌%◌, ◌^◌, ◌<◌, ◌≤◌, List, [], ◌∷◌, length, take, slice_index, Result, Ok, Err, nat_lt, if◌then◌else◌}
use Rattle.std.specs.List.{AllByRecursion}
use Rattle.wire_fields.specs.declared.fault.WireKind.{WireKind}
use Rattle.wire_fields.specs.declared.fault.WireKind.TheVariants.{Truncated, BadVarint}
use Rattle.wire_fields.specs.Steps.{◌>>=◌}

-- ---- what spells a number

-- the sum of (byte k mod 128) * 128 ^ k, where the first byte is byte `place`
abbrev pub group_sum : ℕ → List ℕ → ℕ
group_sum place [] = 0
group_sum place (byte ∷ bytes) = byte % 128 * 128 ^ place + group_sum (place + 1) bytes

-- All bytes but the last are at least 128, and the last is below 128.
abbrev pub AreGroups : List ℕ → Type 0
AreGroups [] = ⊥
AreGroups (last ∷ []) = last < 128
AreGroups (byte ∷ next ∷ bytes) = (128 ≤ byte) × AreGroups (next ∷ bytes)

-- The bytes spell v: 1 to 10 bytes, of which a tenth is at most 1. So v is below 2 ^ 64.
pub record IsVarintOf (v : ℕ) (bytes : List ℕ) : Type 0 where
  pub groups : AreGroups bytes
  pub at_most_ten : length bytes ≤ 10
  pub tenth : slice_index bytes 9 ≤ 1
  pub value : group_sum 0 bytes ≡ v

-- ---- what is wrong where bytes do not begin with a varint

-- The bytes end inside a varint: fewer than ten, all with the top bit set.
pub record EndInside (bytes : List ℕ) : Type 0 where
  pub all_high : AllByRecursion (λ byte. 128 ≤ byte) bytes
  pub fewer_than_ten : length bytes < 10

-- The tenth byte of a varint is above 1.
pub record HasBadTenth (bytes : List ℕ) : Type 0 where
  pub nine_high : AllByRecursion (λ byte. 128 ≤ byte) (take 9 bytes)
  pub above_one : 1 < slice_index bytes 9

-- ---- reading one

-- A varint's number and the bytes after it, where `more` bytes may follow the first one.
unfoldable pub varint_within : ℕ → List ℕ → Result (ℕ × List ℕ) WireKind
varint_within more [] = Err Truncated
varint_within zero (byte ∷ bytes) = if nat_lt 1 byte then Err BadVarint else Ok (byte, bytes)
varint_within (suc more) (byte ∷ bytes) =
    if nat_lt byte 128 then Ok (byte, bytes)
    else (varint_within more bytes >>= λ high. Ok (byte % 128 + 128 * high.0, high.1))

-- The number at the front, and the bytes after it.
abbrev pub varint_at : List ℕ → Result (ℕ × List ℕ) WireKind
varint_at bytes = varint_within 9 bytes
