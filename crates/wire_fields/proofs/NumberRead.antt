-- A varint is read where its bytes spell it, and else the first fault is answered.
use Rattle.std.proofs.Common.{◌≡◌, ℕ, zero, suc, ◌+◌, ◌*◌, ◌%◌, ◌^◌, ◌<◌, ◌≤◌, List, [], ◌∷◌, ◌++◌, length, get_or, take, Ok, Err, refl, sym, ap, subst, ◌∙◌, arith, add-one, lit<, inl, inr}
use Rattle.std.specs.List.{AllByRecursion}
use Rattle.std.proofs.lemmas.Bool.{cases_lt}
use Rattle.std.proofs.lemmas.Grind.{pow_more}
use Rattle.std.proofs.Math.Nat.{one-le-pow}
use Rattle.wire_fields.specs.declared.fault.WireKind.{WireKind}
use Rattle.wire_fields.specs.declared.fault.WireKind.TheVariants.{Truncated, BadVarint}
use Rattle.wire_fields.specs.Varint.{group_sum, AreGroups, IsVarintOf, varint_within, varint_at}
use Rattle.wire_fields.specs.Spelling.{IsNumberAt}
use Rattle.wire_fields.specs.Fault.{FirstVarintFault, end_inside, bad_tenth}
use Rattle.wire_fields.specs.Reading.{number_at}
use Rattle.wire_fields.proofs.Groups.{Read, with_low, within_none, within_last, within_more, within_bad}
use Rattle.wire_fields.proofs.Items.{IsReader}

-- ---- the sum of the groups, from the first byte on

abbrev pub number_of : List ℕ → ℕ
number_of [] = 0
number_of (byte ∷ bytes) = byte % 128 + 128 * number_of bytes

group_sum_is : (place : ℕ) (bytes : List ℕ) → group_sum place bytes ≡ number_of bytes * 128 ^ place
group_sum_is place [] = omega arith
group_sum_is place (byte ∷ bytes) = omega (arith, group_sum_is (place + 1) bytes, ap (λ n. number_of bytes * n) (pow_more 128 place))

-- ---- from a place within the varint on, behind which `more` bytes may follow

pub record IsWithin (more : ℕ) (bytes : List ℕ) : Type 0 where
  pub groups : AreGroups bytes
  pub fits : length bytes ≤ suc more
  pub last : get_or bytes more 0 ≤ 1

pub taken_within : (more : ℕ) (bytes rest : List ℕ) → IsWithin more bytes → varint_within more (bytes ++ rest) ≡ Ok (number_of bytes, rest)
taken_within more [] rest h = absurd h.groups
taken_within zero (byte ∷ []) rest h =
    let e : byte ≡ byte % 128 + 128 * 0 = omega (arith, h.groups) in
    within_last zero byte rest h.groups (λ _. h.last) ∙ ap (λ (n : ℕ). Ok (n, rest)) e
taken_within (suc more) (byte ∷ []) rest h =
    let e : byte ≡ byte % 128 + 128 * 0 = omega (arith, h.groups) in
    within_last (suc more) byte rest h.groups (λ e. absurd (omega arith)) ∙ ap (λ (n : ℕ). Ok (n, rest)) e
taken_within zero (byte ∷ next ∷ bytes) rest h = absurd (omega (arith, h.fits))
taken_within (suc more) (byte ∷ next ∷ bytes) rest h =
    let later = taken_within more (next ∷ bytes) rest (record { groups = h.groups.1; fits = omega (arith, h.fits); last = h.last }) in
    within_more more byte ((next ∷ bytes) ++ rest) h.groups.0 ∙ ap (with_low (byte % 128) 128) later

-- bytes that are one more group are groups
groups_more : (byte : ℕ) (bytes : List ℕ) → 128 ≤ byte → AreGroups bytes → AreGroups (byte ∷ bytes)
groups_more byte [] high h = absurd h
groups_more byte (next ∷ bytes) high h = (high, h)

pub record FoundWithin (more : ℕ) (bytes : List ℕ) (found : ℕ × List ℕ) : Type 0 where
  pub spelling : List ℕ
  pub parts : bytes ≡ spelling ++ found.1
  pub within : IsWithin more spelling
  pub value : number_of spelling ≡ found.0

found_one : (more byte : ℕ) (bytes : List ℕ) → byte < 128 → get_or (byte ∷ []) more 0 ≤ 1 → FoundWithin more (byte ∷ bytes) (byte, bytes)
found_one more byte bytes low last = record { spelling = byte ∷ []; parts = refl; within = record { groups = low; fits = omega arith; last = last }; value = omega arith }

found_more : (more byte : ℕ) (bytes : List ℕ) (found : ℕ × List ℕ) → 128 ≤ byte → FoundWithin more bytes found → FoundWithin (suc more) (byte ∷ bytes) (byte % 128 + 128 * found.0, found.1)
found_more more byte bytes found high h = record {
  spelling = byte ∷ h.spelling;
  parts = ap (λ (l : List ℕ). byte ∷ l) h.parts;
  within = record { groups = groups_more byte h.spelling high h.within.groups; fits = omega (arith, h.within.fits); last = h.within.last };
  value = ap (λ n. byte % 128 + 128 * n) h.value;
}

-- what reading answers
pub data ReadsWithin (more : ℕ) (bytes : List ℕ) : Read → Type 0 where
  spelled : (found : ℕ × List ℕ) → FoundWithin more bytes found → ReadsWithin more bytes (Ok found)
  ends_early : AllByRecursion (λ byte. 128 ≤ byte) bytes → length bytes ≤ more → ReadsWithin more bytes (Err Truncated)
  ends_late : AllByRecursion (λ byte. 128 ≤ byte) (take more bytes) → 1 < get_or bytes more 0 → ReadsWithin more bytes (Err BadVarint)

reads_more : (more byte : ℕ) (bytes : List ℕ) (read : Read) → 128 ≤ byte → ReadsWithin more bytes read → ReadsWithin (suc more) (byte ∷ bytes) (with_low (byte % 128) 128 read)
reads_more more byte bytes read high (spelled found h) = spelled _ (found_more more byte bytes found high h)
reads_more more byte bytes read high (ends_early all short) = ends_early (high, all) (omega arith)
reads_more more byte bytes read high (ends_late all above) = ends_late (high, all) above

pub reads_within : (more : ℕ) (bytes : List ℕ) → ReadsWithin more bytes (varint_within more bytes)
reads_within more [] = subst (ReadsWithin more []) (sym (within_none more)) (ends_early tt (omega arith))
reads_within zero (byte ∷ bytes) =
    elim (cases_lt 1 byte) [
      | inl above ↦ subst (ReadsWithin 0 (byte ∷ bytes)) (sym (within_bad byte bytes above)) (ends_late tt above)
      | inr low ↦ subst (ReadsWithin 0 (byte ∷ bytes)) (sym (within_last 0 byte bytes (omega arith) (λ _. low))) (spelled _ (found_one 0 byte bytes (omega arith) low))
    ]
reads_within (suc more) (byte ∷ bytes) =
    elim (cases_lt byte 128) [
      | inl low ↦ subst (ReadsWithin (suc more) (byte ∷ bytes)) (sym (within_last (suc more) byte bytes low (λ e. absurd (omega arith)))) (spelled _ (found_one (suc more) byte bytes low (omega arith)))
      | inr high ↦ subst (ReadsWithin (suc more) (byte ∷ bytes)) (sym (within_more more byte bytes high)) (reads_more more byte bytes (varint_within more bytes) high (reads_within more bytes))
    ]

-- ---- the number fits 64 bits

below_within : (more : ℕ) (bytes : List ℕ) → IsWithin more bytes → number_of bytes < 2 * 128 ^ more
below_within more [] h = absurd h.groups
below_within zero (byte ∷ []) h = omega (arith, h.last)
below_within (suc more) (byte ∷ []) h = omega (arith, h.groups, pow_more 128 more, one-le-pow more 128 (lit< tt), add-one more)
below_within zero (byte ∷ next ∷ bytes) h = absurd (omega (arith, h.fits))
below_within (suc more) (byte ∷ next ∷ bytes) h =
    let later = below_within more (next ∷ bytes) (record { groups = h.groups.1; fits = omega (arith, h.fits); last = h.last }) in
    let scale : 128 ^ suc more ≡ 128 ^ more * 128 = ap (λ n. 128 ^ n) (sym (add-one more)) ∙ pow_more 128 more in
    omega (arith, later, scale)

-- ---- whole varints

is_within : (n : ℕ) (bytes : List ℕ) → IsVarintOf n bytes → IsWithin 9 bytes
is_within n bytes h = record { groups = h.groups; fits = h.at_most_ten; last = h.tenth }

number_is : (bytes : List ℕ) → group_sum 0 bytes ≡ number_of bytes
number_is bytes = omega (arith, group_sum_is 0 bytes)

pub varint_below : (n : ℕ) (bytes : List ℕ) → IsVarintOf n bytes → n < 2 ^ 64
varint_below n bytes h = omega (arith, below_within 9 bytes (is_within n bytes h), number_is bytes, h.value)

pub varint_taken : (n : ℕ) (spelling rest : List ℕ) → IsVarintOf n spelling → varint_at (spelling ++ rest) ≡ Ok (n, rest)
varint_taken n spelling rest h = taken_within 9 spelling rest (is_within n spelling h) ∙ ap (λ (m : ℕ). Ok (m, rest)) (sym (number_is spelling) ∙ h.value)

-- what reading a varint answers
pub data ReadsVarint (bytes : List ℕ) : Read → Type 0 where
  is_spelled : (n : ℕ) (spelling rest : List ℕ) → bytes ≡ spelling ++ rest → IsVarintOf n spelling → ReadsVarint bytes (Ok (n, rest))
  is_fault : {kind : WireKind} → FirstVarintFault bytes kind → ReadsVarint bytes (Err kind)

whole_varint : (bytes : List ℕ) (read : Read) → ReadsWithin 9 bytes read → ReadsVarint bytes read
whole_varint bytes read (spelled found h) =
    is_spelled found.0 h.spelling found.1 h.parts (record { groups = h.within.groups; at_most_ten = h.within.fits; tenth = h.within.last; value = number_is h.spelling ∙ h.value })
whole_varint bytes read (ends_early all short) = is_fault (end_inside (record { all_high = all; fewer_than_ten = omega arith }))
whole_varint bytes read (ends_late all above) = is_fault (bad_tenth (record { nine_high = all; above_one = above }))

pub reads_varint : (bytes : List ℕ) → ReadsVarint bytes (varint_at bytes)
reads_varint bytes = whole_varint bytes (varint_within 9 bytes) (reads_within 9 bytes)

-- ---- the first fault is the answer

ends_within : (more : ℕ) (bytes : List ℕ) → AllByRecursion (λ byte. 128 ≤ byte) bytes → length bytes ≤ more → varint_within more bytes ≡ Err Truncated
ends_within more [] all short = within_none more
ends_within zero (byte ∷ bytes) all short = absurd (omega arith)
ends_within (suc more) (byte ∷ bytes) all short = within_more more byte bytes all.0 ∙ ap (with_low (byte % 128) 128) (ends_within more bytes all.1 (omega arith))

bad_within : (more : ℕ) (bytes : List ℕ) → AllByRecursion (λ byte. 128 ≤ byte) (take more bytes) → 1 < get_or bytes more 0 → varint_within more bytes ≡ Err BadVarint
bad_within more [] all above = absurd (omega arith)
bad_within zero (byte ∷ bytes) all above = within_bad byte bytes above
bad_within (suc more) (byte ∷ bytes) all above = within_more more byte bytes all.0 ∙ ap (with_low (byte % 128) 128) (bad_within more bytes all.1 above)

pub varint_only_fault : (bytes : List ℕ) {kind : WireKind} → FirstVarintFault bytes kind → varint_at bytes ≡ Err kind
varint_only_fault bytes (end_inside h) = ends_within 9 bytes h.all_high (omega (arith, h.fewer_than_ten))
varint_only_fault bytes (bad_tenth h) = bad_within 9 bytes h.nine_high h.above_one

-- ---- a reader of numbers

-- a varint has a byte
pub varint_not_empty : (n : ℕ) (bytes : List ℕ) → IsVarintOf n bytes → 0 < length bytes
varint_not_empty n [] h = absurd h.groups
varint_not_empty n (byte ∷ bytes) h = omega arith

pub FoundNumber : List ℕ → Read → Type 0
FoundNumber bytes (Ok found) = (spelling : List ℕ) × (bytes ≡ spelling ++ found.1) × IsVarintOf found.0 spelling
FoundNumber bytes (Err kind) = FirstVarintFault bytes kind

found_number : (bytes : List ℕ) (read : Read) → ReadsVarint bytes read → FoundNumber bytes read
unfolding FoundNumber
found_number bytes read (is_spelled n spelling rest e h) = (spelling, e, h)
found_number bytes read (is_fault h) = h

pub number_reader : IsReader IsNumberAt FirstVarintFault number_at
unfolding FoundNumber
number_reader = record {
  taken = λ at n spelling rest h. varint_taken n spelling rest h;
  found = λ at bytes n rest e. subst (FoundNumber bytes) e (found_number bytes (varint_at bytes) (reads_varint bytes));
  not_empty = λ at n spelling h. varint_not_empty n spelling h;
  fault = λ at bytes kind e. subst (FoundNumber bytes) e (found_number bytes (varint_at bytes) (reads_varint bytes));
  only_fault = λ at bytes kind h. varint_only_fault bytes h;
}
