-- A field of a file is the first field of the bytes from its place on.
use Rattle.std.proofs.Common.{◌≡◌, ◌≤◌, [], ◌∷◌, ℕ, zero, suc, ◌+◌, ◌-◌, List, length, Option, Some, None, Result, Ok, Err, Bool, true, false, cond, refl, sym, ◌∙◌, ap, subst, drop, map, add-one, arith}
use Rattle.std.specs.List.{AllByRecursion, cons_option}
use Rattle.std.proofs.lemmas.List.{drop_all}
use Rattle.std.specs.Prelude.{filter_map, nat_lt, nat_le, ◌||◌, ◌==◌, unwrap_or, ◌^◌, ◌/◌, ◌%◌}
use Rattle.wire_fields.specs.declared.fault.WireKind.{WireKind}
use Rattle.wire_fields.specs.declared.fault.WireKind.TheVariants.{BadFieldNumber}
use Rattle.wire_fields.specs.Steps.{◌>>=◌}
use Rattle.wire_fields.specs.Varint.{varint_at, varint_within}
use Rattle.wire_fields.specs.Field.{WireField, WireValue}
use Rattle.wire_fields.specs.Reading.{Left, value_at, field_at, left_at, fields_of}
use Rattle.profile_messages.specs.Message.{first, bytes_in, content_from, content_of, Content}
use Rattle.profile_messages.specs.Tables.{samples_of}
use Rattle.profile_messages.specs.Offsets.{offset_of, bytes_or_none, content_at, found_at}

-- ---- a field read at another place

at_place : ℕ → Result (WireField × List ℕ) WireKind → Result (WireField × List ℕ) WireKind
at_place at (Ok found) = Ok (record { number = found.0.number; at = at; value = found.0.value }, found.1)
at_place at (Err kind) = Err kind

place-value : (at : ℕ) (tag : ℕ × List ℕ) (b : Bool) (value : Result (WireValue × List ℕ) WireKind) → cond b (Err BadFieldNumber) (value >>= λ v. Ok (record { number = tag.0 / 8; at = at; value = v.0 }, v.1)) ≡ at_place at (cond b (Err BadFieldNumber) (value >>= λ v. Ok (record { number = tag.0 / 8; at = 0; value = v.0 }, v.1)))
unfolding at_place
place-value at tag true value = refl
place-value at tag false (Ok v) = refl
place-value at tag false (Err kind) = refl

place-tag : (at : ℕ) (tag : Result (ℕ × List ℕ) WireKind) → (tag >>= λ t. cond (nat_lt t.0 8 || nat_le (2 ^ 32) t.0) (Err BadFieldNumber) (value_at (t.0 % 8) t.1 >>= λ v. Ok (record { number = t.0 / 8; at = at; value = v.0 }, v.1))) ≡ at_place at (tag >>= λ t. cond (nat_lt t.0 8 || nat_le (2 ^ 32) t.0) (Err BadFieldNumber) (value_at (t.0 % 8) t.1 >>= λ v. Ok (record { number = t.0 / 8; at = 0; value = v.0 }, v.1)))
unfolding at_place
place-tag at (Ok t) = place-value at t (nat_lt t.0 8 || nat_le (2 ^ 32) t.0) (value_at (t.0 % 8) t.1)
place-tag at (Err kind) = refl

field_at-place : (at : ℕ) (bytes : List ℕ) → field_at at bytes ≡ at_place at (field_at 0 bytes)
unfolding field_at
field_at-place at bytes = place-tag at (varint_at bytes)

-- ---- each field stands where it says

record IsThere (file : List ℕ) (field : WireField) : Type 0 where
  behind : List ℕ
  read : field_at field.at (drop field.at file) ≡ Ok (field, behind)

place_read : Result (WireField × List ℕ) WireKind → ℕ
place_read (Ok found) = found.0.at
place_read (Err kind) = 0

place-is : (at : ℕ) (r : Result (WireField × List ℕ) WireKind) (found : WireField × List ℕ) → at_place at r ≡ Ok found → found.0.at ≡ at
unfolding at_place place_read
place-is at (Ok x) found is = sym (ap place_read is)
place-is at (Err kind) found is = cc

here : (file : List ℕ) (at : ℕ) (bytes : List ℕ) (found : WireField × List ℕ) → drop at file ≡ bytes → field_at at bytes ≡ Ok found → IsThere file found.0
here file at bytes found dropped is =
    let place : found.0.at ≡ at = place-is at (field_at 0 bytes) found (sym (field_at-place at bytes) ∙ is) in
    record { behind = found.1; read = subst (λ (n : ℕ). field_at n (drop n file) ≡ Ok found) (sym place) (ap (field_at at) dropped ∙ is) }

drop-suc : (file : List ℕ) (at byte : ℕ) (bytes : List ℕ) → drop at file ≡ byte ∷ bytes → drop (suc at) file ≡ bytes
drop-suc [] zero byte bytes dropped = cc
drop-suc [] (suc at) byte bytes dropped = cc
drop-suc (x ∷ file) zero byte bytes dropped = cc
drop-suc (x ∷ file) (suc at) byte bytes dropped = drop-suc file at byte bytes dropped

drop-next : (file : List ℕ) (at byte : ℕ) (bytes : List ℕ) → drop at file ≡ byte ∷ bytes → drop (at + 1) file ≡ bytes
drop-next file at byte bytes dropped = ap (λ n. drop n file) (add-one at) ∙ drop-suc file at byte bytes dropped

-- the fields from a place on, by what is read there
fields_by : ℕ → List ℕ → Result (WireField × List ℕ) WireKind → Left WireField
fields_by at bytes (Ok found) = let later = left_at field_at (at + 1) (length bytes - length found.1) bytes in record { items = found.0 ∷ later.items; fault = later.fault }
fields_by at bytes (Err kind) = record { items = []; fault = Some (record { kind = kind; at = at }) }

all_there : (file : List ℕ) (at skip : ℕ) (rest : List ℕ) → drop at file ≡ rest → AllByRecursion (IsThere file) (left_at field_at at skip rest).items
unfolding left_at fields_by
all_there file at skip [] dropped = tt
all_there file at (suc skip) (byte ∷ bytes) dropped = all_there file (at + 1) skip bytes (drop-next file at byte bytes dropped)
all_there file at zero (byte ∷ bytes) dropped =
    elim (field_at at (byte ∷ bytes)) as (λ r. field_at at (byte ∷ bytes) ≡ r → AllByRecursion (IsThere file) (fields_by at bytes r).items) [
      | Ok found ↦ λ is. (here file at (byte ∷ bytes) found dropped is, all_there file (at + 1) (length bytes - length found.1) bytes (drop-next file at byte bytes dropped))
      | Err kind ↦ λ is. tt
    ] refl

-- ---- the first field

first_found : Result (WireField × List ℕ) WireKind → Option WireField
first_found (Ok found) = Some found.0
first_found (Err kind) = None

first-fields_of : (bytes : List ℕ) → first (fields_of bytes).items ≡ first_found (field_at 0 bytes)
unfolding fields_of left_at field_at varint_within first_found fields_by
first-fields_of [] = refl
first-fields_of (byte ∷ bytes) =
    elim (field_at 0 (byte ∷ bytes)) as (λ r. first (fields_by 0 bytes r).items ≡ first_found r) [
      | Ok found ↦ refl
      | Err kind ↦ refl
    ]

same-value : (at : ℕ) (r : Result (WireField × List ℕ) WireKind) (field : WireField) (behind : List ℕ) → at_place at r ≡ Ok (field, behind) → bytes_or_none (first_found r) ≡ bytes_or_none (Some field)
unfolding at_place first_found
same-value at (Ok x) field behind is = ap (λ read. bytes_or_none (first_found read)) is
same-value at (Err kind) field behind is = cc

content_at-there : (file : List ℕ) (field : WireField) → IsThere file field → content_at file field.at ≡ unwrap_or (bytes_in field.value) []
content_at-there file field there =
    ap bytes_or_none (first-fields_of (drop field.at file))
    ∙ same-value field.at (field_at 0 (drop field.at file)) field there.behind (sym (field_at-place field.at (drop field.at file)) ∙ there.read)

-- ---- the samples

found-step : (file : List ℕ) (b : Bool) (at : ℕ) (o : Option (List ℕ)) (others : List Content) → content_at file at ≡ unwrap_or o [] → map (found_at file) (map offset_of others) ≡ others → map (found_at file) (map offset_of (cons_option (cond b (content_from at o) None) others)) ≡ cons_option (cond b (content_from at o) None) others
found-step file false at o others is rest = rest
found-step file true at None others is rest = rest
found-step file true at (Some bytes) others is rest = λ i. (let one : Content = record { at = at; bytes = is i } in one) ∷ rest i

found-all : (file : List ℕ) (number : ℕ) (fields : List WireField) → AllByRecursion (IsThere file) fields → map (found_at file) (map offset_of (filter_map (content_of number) fields)) ≡ filter_map (content_of number) fields
found-all file number [] there = refl
found-all file number (field ∷ fields) there =
    found-step file (field.number == number) field.at (bytes_in field.value) _ (content_at-there file field there.0) (found-all file number fields there.1)

all-fields : (file : List ℕ) → AllByRecursion (IsThere file) (fields_of file).items
unfolding fields_of
all-fields file = all_there file 0 0 file refl

-- what is found at the places of the samples are the samples
pub found-samples : (file : List ℕ) → map (found_at file) (map offset_of (samples_of file)) ≡ samples_of file
found-samples file = found-all file 2 (fields_of file).items (all-fields file)

no_first : first (fields_of []).items ≡ None
unfolding fields_of left_at
no_first = refl

pub content_at-past : (file : List ℕ) (at : ℕ) → length file ≤ at → content_at file at ≡ []
content_at-past file at past = ap (λ bytes. bytes_or_none (first (fields_of bytes).items)) (drop_all at file past) ∙ ap bytes_or_none no_first

-- ---- no more fields than bytes

few-from : (at skip : ℕ) (rest : List ℕ) → length (left_at field_at at skip rest).items ≤ length rest
unfolding left_at fields_by
few-from at skip [] = omega arith
few-from at (suc skip) (byte ∷ bytes) = let h = few-from (at + 1) skip bytes in omega arith
few-from at zero (byte ∷ bytes) =
    elim (field_at at (byte ∷ bytes)) as (λ r. length (fields_by at bytes r).items ≤ suc (length bytes)) [
      | Ok found ↦ let h = few-from (at + 1) (length bytes - length found.1) bytes in omega arith
      | Err kind ↦ omega arith
    ]

pub few-fields : (file : List ℕ) → length (fields_of file).items ≤ length file
unfolding fields_of
few-fields file = few-from 0 0 file
