-- A field is read where its bytes spell it, and else the first fault is answered.
use Rattle.std.proofs.Common.{◌≡◌, ℕ, zero, suc, ◌+◌, ◌*◌, ◌/◌, ◌%◌, ◌^◌, ◌<◌, ◌≤◌, true, false, cond, List, [], ◌++◌, length, take, drop, Option, Some, Result, Ok, Err, refl, sym, ap, subst, ◌∙◌, arith, append_assoc, inl, inr, ◌⊎◌, lit<}
use Rattle.std.specs.Prelude.{nat_lt, ◌==◌, ◌||◌}
use Rattle.std.proofs.lemmas.Bool.{cases_lt, lt-ltb, le-ltb, le-leb, lt-leb}
use Rattle.std.proofs.lemmas.List.{length-append, length-take, take_at, drop_at, take-append-drop}
use Rattle.wire_fields.specs.declared.fault.WireKind.{WireKind}
use Rattle.wire_fields.specs.declared.fault.WireKind.TheVariants.{Truncated, BadFieldNumber, BadWireType}
use Rattle.wire_fields.specs.Steps.{◌>>=◌}
use Rattle.wire_fields.specs.Varint.{IsVarintOf, varint_at}
use Rattle.wire_fields.specs.Field.{WireValue, varint_value, eight_bytes, delimited_bytes, four_bytes, WireField}
use Rattle.wire_fields.specs.Spelling.{wire_type, IsValueOf, IsFieldOf, IsFieldAt}
use Rattle.wire_fields.specs.Fault.{BeginsWith, IsTagInRange, IsUnknownType, FirstValueFault, bad_varint, fewer_than_eight, bad_length, fewer_than_length, fewer_than_four, FirstFault, bad_tag, bad_field_number, bad_wire_type, bad_value}
use Rattle.wire_fields.specs.Reading.{Left, part_at, value_at, field_at, left_at, next_place}
use Rattle.wire_fields.proofs.Items.{IsReader, no_longer, next_first, left_if_fault}
use Rattle.wire_fields.proofs.NumberRead.{varint_taken, varint_only_fault, varint_not_empty, ReadsVarint, is_spelled, is_fault, reads_varint}

-- ---- the first n bytes

abbrev Part : Type 0
Part = Result (List ℕ × List ℕ) WireKind

pub part_taken : (n : ℕ) (part rest : List ℕ) → length part ≡ n → part_at n (part ++ rest) ≡ Ok (part, rest)
part_taken n part rest e =
    rw (le-ltb (length (part ++ rest)) n (omega (arith, length-append part rest)), take_at part rest n e, drop_at part rest n e) refl

part_missing : (n : ℕ) (bytes : List ℕ) → length bytes < n → part_at n bytes ≡ Err Truncated
part_missing n bytes short = rw (lt-ltb (length bytes) n short) refl

data ReadsPart (n : ℕ) (bytes : List ℕ) : Part → Type 0 where
  part_stands : (part rest : List ℕ) → bytes ≡ part ++ rest → length part ≡ n → ReadsPart n bytes (Ok (part, rest))
  part_is_missing : length bytes < n → ReadsPart n bytes (Err Truncated)

reads_part : (n : ℕ) (bytes : List ℕ) → ReadsPart n bytes (part_at n bytes)
reads_part n bytes =
    elim (cases_lt (length bytes) n) [
      | inl short ↦ subst (ReadsPart n bytes) (sym (part_missing n bytes short)) (part_is_missing short)
      | inr enough ↦
          let read : part_at n bytes ≡ Ok (take n bytes, drop n bytes) = rw (le-ltb (length bytes) n enough) refl in
          let len : length (take n bytes) ≡ n = omega (arith, length-take n bytes) in
          subst (ReadsPart n bytes) (sym read) (part_stands (take n bytes) (drop n bytes) (sym (take-append-drop n bytes)) len)
    ]

-- ---- the value of a wire type

abbrev Value : Type 0
Value = Result (WireValue × List ℕ) WireKind

abbrev varint_step : List ℕ → Value
varint_step bytes = varint_at bytes >>= λ n. Ok (varint_value n.0, n.1)

abbrev part_step : ℕ → (List ℕ → WireValue) → List ℕ → Value
part_step n make bytes = part_at n bytes >>= λ part. Ok (make part.0, part.1)

abbrev delimited_step : List ℕ → Value
delimited_step bytes = varint_at bytes >>= λ n. part_at n.0 n.1 >>= λ part. Ok (delimited_bytes part.0, part.1)

value_0 : (bytes : List ℕ) → value_at 0 bytes ≡ varint_step bytes
unfolding value_at
value_0 bytes = refl

value_1 : (bytes : List ℕ) → value_at 1 bytes ≡ part_step 8 eight_bytes bytes
unfolding value_at
value_1 bytes = refl

value_2 : (bytes : List ℕ) → value_at 2 bytes ≡ delimited_step bytes
unfolding value_at
value_2 bytes = refl

value_5 : (bytes : List ℕ) → value_at 5 bytes ≡ part_step 4 four_bytes bytes
unfolding value_at
value_5 bytes = refl

value_3 : (bytes : List ℕ) → value_at 3 bytes ≡ Err BadWireType
unfolding value_at
value_3 bytes = refl

value_4 : (bytes : List ℕ) → value_at 4 bytes ≡ Err BadWireType
unfolding value_at
value_4 bytes = refl

value_6 : (bytes : List ℕ) → value_at 6 bytes ≡ Err BadWireType
unfolding value_at
value_6 bytes = refl

value_7 : (bytes : List ℕ) → value_at 7 bytes ≡ Err BadWireType
unfolding value_at
value_7 bytes = refl

value_taken : (value : WireValue) (spelling rest : List ℕ) → IsValueOf value spelling → value_at (wire_type value) (spelling ++ rest) ≡ Ok (value, rest)
value_taken (varint_value n) spelling rest h =
    value_0 (spelling ++ rest) ∙ ap (λ r. r >>= λ n. Ok (varint_value n.0, n.1)) (varint_taken n spelling rest h)
value_taken (eight_bytes part) spelling rest h =
    let f : Part → Value = λ r. r >>= λ found. Ok (eight_bytes found.0, found.1) in
    value_1 (spelling ++ rest) ∙ ap f (ap (λ (l : List ℕ). part_at 8 (l ++ rest)) h.1 ∙ part_taken 8 part rest h.0)
value_taken (delimited_bytes part) spelling rest h =
    let f : Part → Value = λ r. r >>= λ found. Ok (delimited_bytes found.0, found.1) in
    let whole : spelling ++ rest ≡ h.0 ++ (part ++ rest) = ap (λ (l : List ℕ). l ++ rest) h.2 ∙ append_assoc h.0 part rest in
    value_2 (spelling ++ rest)
    ∙ ap delimited_step whole
    ∙ ap (λ r. r >>= λ n. part_at n.0 n.1 >>= λ found. Ok (delimited_bytes found.0, found.1)) (varint_taken (length part) h.0 (part ++ rest) h.1)
    ∙ ap f (part_taken (length part) part rest refl)
value_taken (four_bytes part) spelling rest h =
    let f : Part → Value = λ r. r >>= λ found. Ok (four_bytes found.0, found.1) in
    value_5 (spelling ++ rest) ∙ ap f (ap (λ (l : List ℕ). part_at 4 (l ++ rest)) h.1 ∙ part_taken 4 part rest h.0)

-- what reading a value answers
data ReadsValue (type : ℕ) (bytes : List ℕ) : Value → Type 0 where
  value_stands : (value : WireValue) (spelling rest : List ℕ) → bytes ≡ spelling ++ rest → IsValueOf value spelling → wire_type value ≡ type → ReadsValue type bytes (Ok (value, rest))
  unknown_type : IsUnknownType type → ReadsValue type bytes (Err BadWireType)
  value_fault : {kind : WireKind} → FirstValueFault type bytes kind → ReadsValue type bytes (Err kind)

after_varint : (bytes : List ℕ) (r : Result (ℕ × List ℕ) WireKind) → ReadsVarint bytes r → ReadsValue 0 bytes (r >>= λ n. Ok (varint_value n.0, n.1))
after_varint bytes r (is_spelled n spelling rest e h) = value_stands (varint_value n) spelling rest e h refl
after_varint bytes r (is_fault h) = value_fault (bad_varint refl h)

after_eight : (bytes : List ℕ) (r : Part) → ReadsPart 8 bytes r → ReadsValue 1 bytes (r >>= λ part. Ok (eight_bytes part.0, part.1))
after_eight bytes r (part_stands part rest e h) = value_stands (eight_bytes part) part rest e (h, refl) refl
after_eight bytes r (part_is_missing short) = value_fault (fewer_than_eight refl short)

after_four : (bytes : List ℕ) (r : Part) → ReadsPart 4 bytes r → ReadsValue 5 bytes (r >>= λ part. Ok (four_bytes part.0, part.1))
after_four bytes r (part_stands part rest e h) = value_stands (four_bytes part) part rest e (h, refl) refl
after_four bytes r (part_is_missing short) = value_fault (fewer_than_four refl short)

after_length : (bytes : List ℕ) (n : ℕ) (spelling rest : List ℕ) → bytes ≡ spelling ++ rest → IsVarintOf n spelling → (r : Part) → ReadsPart n rest r →
    ReadsValue 2 bytes (r >>= λ part. Ok (delimited_bytes part.0, part.1))
after_length bytes n spelling rest e h r (part_stands part beyond f len) =
    let is_length : IsVarintOf (length part) spelling = subst (λ m. IsVarintOf m spelling) (sym len) h in
    value_stands (delimited_bytes part) (spelling ++ part) beyond (e ∙ ap (λ (l : List ℕ). spelling ++ l) f ∙ sym (append_assoc spelling part beyond)) (spelling, is_length, refl) refl
after_length bytes n spelling rest e h r (part_is_missing short) =
    value_fault (fewer_than_length refl n rest (record { spelling = spelling; is_varint = h; parts = e }) short)

after_delimited : (bytes : List ℕ) (r : Result (ℕ × List ℕ) WireKind) → ReadsVarint bytes r → ReadsValue 2 bytes (r >>= λ n. part_at n.0 n.1 >>= λ part. Ok (delimited_bytes part.0, part.1))
after_delimited bytes r (is_spelled n spelling rest e h) = after_length bytes n spelling rest e h (part_at n rest) (reads_part n rest)
after_delimited bytes r (is_fault h) = value_fault (bad_length refl h)

-- the numbers below eight
abbrev Below8 : (ℕ → Type 0) → Type 0
Below8 P = P 0 × P 1 × P 2 × P 3 × P 4 × P 5 × P 6 × P 7

below_8 : (P : ℕ → Type 0) → Below8 P → (n : ℕ) → n < 8 → P n
below_8 P h zero less = h.0
below_8 P h (suc zero) less = h.1
below_8 P h (suc (suc zero)) less = h.2
below_8 P h (suc (suc (suc zero))) less = h.3
below_8 P h (suc (suc (suc (suc zero)))) less = h.4
below_8 P h (suc (suc (suc (suc (suc zero))))) less = h.5
below_8 P h (suc (suc (suc (suc (suc (suc zero)))))) less = h.6
below_8 P h (suc (suc (suc (suc (suc (suc (suc zero))))))) less = h.7
below_8 P h (suc (suc (suc (suc (suc (suc (suc (suc n)))))))) less = absurd (omega arith)

reads_value : (bytes : List ℕ) (type : ℕ) → type < 8 → ReadsValue type bytes (value_at type bytes)
reads_value bytes = below_8 (λ type. ReadsValue type bytes (value_at type bytes)) (
  subst (ReadsValue 0 bytes) (sym (value_0 bytes)) (after_varint bytes (varint_at bytes) (reads_varint bytes)),
  subst (ReadsValue 1 bytes) (sym (value_1 bytes)) (after_eight bytes (part_at 8 bytes) (reads_part 8 bytes)),
  subst (ReadsValue 2 bytes) (sym (value_2 bytes)) (after_delimited bytes (varint_at bytes) (reads_varint bytes)),
  subst (ReadsValue 3 bytes) (sym (value_3 bytes)) (unknown_type (inl refl)),
  subst (ReadsValue 4 bytes) (sym (value_4 bytes)) (unknown_type (inr (inl refl))),
  subst (ReadsValue 5 bytes) (sym (value_5 bytes)) (after_four bytes (part_at 4 bytes) (reads_part 4 bytes)),
  subst (ReadsValue 6 bytes) (sym (value_6 bytes)) (unknown_type (inr (inr (inl refl)))),
  subst (ReadsValue 7 bytes) (sym (value_7 bytes)) (unknown_type (inr (inr (inr refl)))),
)

unknown_only : (type : ℕ) (bytes : List ℕ) → IsUnknownType type → value_at type bytes ≡ Err BadWireType
unknown_only type bytes (inl e) = ap (λ n. value_at n bytes) e ∙ value_3 bytes
unknown_only type bytes (inr (inl e)) = ap (λ n. value_at n bytes) e ∙ value_4 bytes
unknown_only type bytes (inr (inr (inl e))) = ap (λ n. value_at n bytes) e ∙ value_6 bytes
unknown_only type bytes (inr (inr (inr e))) = ap (λ n. value_at n bytes) e ∙ value_7 bytes

value_only : (type : ℕ) (bytes : List ℕ) {kind : WireKind} → FirstValueFault type bytes kind → value_at type bytes ≡ Err kind
value_only type bytes (bad_varint e h) =
    ap (λ n. value_at n bytes) e ∙ value_0 bytes ∙ ap (λ r. r >>= λ n. Ok (varint_value n.0, n.1)) (varint_only_fault bytes h)
value_only type bytes (fewer_than_eight e h) =
    let f : Part → Value = λ r. r >>= λ found. Ok (eight_bytes found.0, found.1) in
    ap (λ n. value_at n bytes) e ∙ value_1 bytes ∙ ap f (part_missing 8 bytes h)
value_only type bytes (bad_length e h) =
    ap (λ n. value_at n bytes) e ∙ value_2 bytes ∙ ap (λ r. r >>= λ n. part_at n.0 n.1 >>= λ found. Ok (delimited_bytes found.0, found.1)) (varint_only_fault bytes h)
value_only type bytes (fewer_than_length e n rest begins h) =
    let f : Part → Value = λ r. r >>= λ found. Ok (delimited_bytes found.0, found.1) in
    ap (λ n. value_at n bytes) e ∙ value_2 bytes
    ∙ ap (λ r. r >>= λ n. part_at n.0 n.1 >>= λ found. Ok (delimited_bytes found.0, found.1)) (ap varint_at begins.parts ∙ varint_taken n begins.spelling rest begins.is_varint)
    ∙ ap f (part_missing n rest h)
value_only type bytes (fewer_than_four e h) =
    let f : Part → Value = λ r. r >>= λ found. Ok (four_bytes found.0, found.1) in
    ap (λ n. value_at n bytes) e ∙ value_5 bytes ∙ ap f (part_missing 4 bytes h)

-- ---- the field

abbrev FoundField : Type 0
FoundField = Result (WireField × List ℕ) WireKind

abbrev field_of : ℕ → ℕ → Value → FoundField
field_of at tag r = r >>= λ value. Ok (record { number = tag / 8; at = at; value = value.0 }, value.1)

-- a field with its tag in range
field_in_range : (at : ℕ) (bytes : List ℕ) (tag : ℕ) (rest : List ℕ) → varint_at bytes ≡ Ok (tag, rest) → IsTagInRange tag → field_at at bytes ≡ field_of at tag (value_at (tag % 8) rest)
unfolding field_at
field_in_range at bytes tag rest e h =
    rw e (rw (le-ltb tag 8 (omega (arith, h.number)), lt-leb 4294967296 tag (omega (arith, h.below))) refl)

field_out_of_range : (at : ℕ) (bytes : List ℕ) (tag : ℕ) (rest : List ℕ) → varint_at bytes ≡ Ok (tag, rest) → ((2 ^ 32 ≤ tag) ⊎ (tag / 8 ≡ 0)) → field_at at bytes ≡ Err BadFieldNumber
unfolding field_at
field_out_of_range at bytes tag rest e (inl large) =
    rw (e, le-leb 4294967296 tag large) (elim (nat_lt tag 8) as (λ b. cond (b || true) (Err BadFieldNumber) (field_of at tag (value_at (tag % 8) rest)) ≡ Err BadFieldNumber) [ true ↦ refl | false ↦ refl ])
field_out_of_range at bytes tag rest e (inr none) = rw (e, lt-ltb tag 8 (omega arith)) refl

field_bad_tag : (at : ℕ) (bytes : List ℕ) {kind : WireKind} → varint_at bytes ≡ Err kind → field_at at bytes ≡ Err kind
unfolding field_at
field_bad_tag at bytes e = rw e refl

-- what reading a field answers
data ReadsField (at : ℕ) (bytes : List ℕ) : FoundField → Type 0 where
  field_stands : (field : WireField) (spelling rest : List ℕ) → bytes ≡ spelling ++ rest → IsFieldAt at field spelling → ReadsField at bytes (Ok (field, rest))
  field_fault : {kind : WireKind} → FirstFault bytes kind → ReadsField at bytes (Err kind)

after_value : (at : ℕ) (bytes : List ℕ) (tag : ℕ) (rest : List ℕ) → BeginsWith tag rest bytes → IsTagInRange tag → (r : Value) → ReadsValue (tag % 8) rest r → ReadsField at bytes (field_of at tag r)
after_value at bytes tag rest begins range r (value_stands value spelling beyond e h type) =
    let whole : bytes ≡ (begins.spelling ++ spelling) ++ beyond = begins.parts ∙ ap (λ (l : List ℕ). begins.spelling ++ l) e ∙ sym (append_assoc begins.spelling spelling beyond) in
    let number : tag ≡ tag / 8 * 8 + wire_type value = omega arith in
    let field : WireField = record { number = tag / 8; at = at; value = value } in
    let at_most : tag / 8 ≤ 536870911 = omega (arith, range.below) in
    field_stands field (begins.spelling ++ spelling) beyond whole (record {
      place = refl;
      spelled = record {
        positive = range.number;
        in_range = at_most;
        tag = begins.spelling;
        value = spelling;
        parts = refl;
        is_tag = subst (λ n. IsVarintOf n begins.spelling) number begins.is_varint;
        is_value = h;
      };
    })
after_value at bytes tag rest begins range r (unknown_type h) = field_fault (bad_wire_type tag rest begins range h)
after_value at bytes tag rest begins range r (value_fault h) = field_fault (bad_value tag rest begins range h)

tag_cases : (tag : ℕ) → IsTagInRange tag ⊎ ((2 ^ 32 ≤ tag) ⊎ (tag / 8 ≡ 0))
tag_cases tag =
    elim (cases_lt tag 8) [
      | inl less ↦ inr (inr (omega arith))
      | inr more ↦ elim (cases_lt tag 4294967296) [ inl less ↦ inl (record { number = omega arith; below = less }) | inr large ↦ inr (inl large) ]
    ]

after_tag : (at : ℕ) (bytes : List ℕ) (tag : ℕ) (rest : List ℕ) → varint_at bytes ≡ Ok (tag, rest) → BeginsWith tag rest bytes → ReadsField at bytes (field_at at bytes)
after_tag at bytes tag rest e begins =
    elim (tag_cases tag) [
      | inl range ↦
          let type_below : tag % 8 < 8 = omega arith in
          subst (ReadsField at bytes) (sym (field_in_range at bytes tag rest e range)) (after_value at bytes tag rest begins range (value_at (tag % 8) rest) (reads_value rest (tag % 8) type_below))
      | inr out ↦ subst (ReadsField at bytes) (sym (field_out_of_range at bytes tag rest e out)) (field_fault (bad_field_number tag rest begins out))
    ]

after_varint_of_tag : (at : ℕ) (bytes : List ℕ) (r : Result (ℕ × List ℕ) WireKind) → varint_at bytes ≡ r → ReadsVarint bytes r → ReadsField at bytes (field_at at bytes)
after_varint_of_tag at bytes r e (is_spelled tag spelling rest f h) = after_tag at bytes tag rest e (record { spelling = spelling; is_varint = h; parts = f })
after_varint_of_tag at bytes r e (is_fault h) = subst (ReadsField at bytes) (sym (field_bad_tag at bytes e)) (field_fault (bad_tag h))

reads_field : (at : ℕ) (bytes : List ℕ) → ReadsField at bytes (field_at at bytes)
reads_field at bytes = after_varint_of_tag at bytes (varint_at bytes) refl (reads_varint bytes)

-- ---- what is spelled is read, and the first fault is the answer

begins_with : (n : ℕ) (rest bytes : List ℕ) → BeginsWith n rest bytes → varint_at bytes ≡ Ok (n, rest)
begins_with n rest bytes h = ap varint_at h.parts ∙ varint_taken n h.spelling rest h.is_varint

type_of_tag : (number type : ℕ) → type < 8 → ((number * 8 + type) % 8 ≡ type) × ((number * 8 + type) / 8 ≡ number)
type_of_tag number type less = (omega arith, omega arith)

type_below_8 : (value : WireValue) → wire_type value < 8
type_below_8 (varint_value n) = lit< tt
type_below_8 (eight_bytes part) = lit< tt
type_below_8 (delimited_bytes part) = lit< tt
type_below_8 (four_bytes part) = lit< tt

field_taken : (at : ℕ) (field : WireField) (spelling rest : List ℕ) → IsFieldAt at field spelling → field_at at (spelling ++ rest) ≡ Ok (field, rest)
field_taken at field spelling rest h =
    let f = h.spelled in
    let type = wire_type field.value in
    let tag = field.number * 8 + type in
    let less = type_below_8 field.value in
    let split = type_of_tag field.number type less in
    let whole : spelling ++ rest ≡ f.tag ++ (f.value ++ rest) = ap (λ (l : List ℕ). l ++ rest) f.parts ∙ append_assoc f.tag f.value rest in
    let range : IsTagInRange tag = record { number = omega (arith, f.positive, split.1); below = omega (arith, f.in_range, less) } in
    let read : varint_at (spelling ++ rest) ≡ Ok (tag, f.value ++ rest) = ap varint_at whole ∙ varint_taken tag f.tag (f.value ++ rest) f.is_tag in
    let value : value_at (tag % 8) (f.value ++ rest) ≡ Ok (field.value, rest) = ap (λ n. value_at n (f.value ++ rest)) split.0 ∙ value_taken field.value f.value rest f.is_value in
    let make : ℕ → ℕ → FoundField = λ number place. Ok (record { number = number; at = place; value = field.value }, rest) in
    field_in_range at (spelling ++ rest) tag (f.value ++ rest) read range ∙ ap (field_of at tag) value
    ∙ ap (λ number. make number at) split.1 ∙ ap (make field.number) (sym h.place)

field_only : (at : ℕ) (bytes : List ℕ) {kind : WireKind} → FirstFault bytes kind → field_at at bytes ≡ Err kind
field_only at bytes (bad_tag h) = field_bad_tag at bytes (varint_only_fault bytes h)
field_only at bytes (bad_field_number tag rest begins out) = field_out_of_range at bytes tag rest (begins_with tag rest bytes begins) out
field_only at bytes (bad_wire_type tag rest begins range unknown) =
    field_in_range at bytes tag rest (begins_with tag rest bytes begins) range ∙ ap (field_of at tag) (unknown_only (tag % 8) rest unknown)
field_only at bytes (bad_value tag rest begins range h) =
    field_in_range at bytes tag rest (begins_with tag rest bytes begins) range ∙ ap (field_of at tag) (value_only (tag % 8) rest h)

-- ---- a reader of fields

FoundAt : ℕ → List ℕ → FoundField → Type 0
FoundAt at bytes (Ok found) = (spelling : List ℕ) × (bytes ≡ spelling ++ found.1) × IsFieldAt at found.0 spelling
FoundAt at bytes (Err kind) = FirstFault bytes kind

found_at : (at : ℕ) (bytes : List ℕ) (read : FoundField) → ReadsField at bytes read → FoundAt at bytes read
unfolding FoundAt
found_at at bytes read (field_stands field spelling rest e h) = (spelling, e, h)
found_at at bytes read (field_fault h) = h

pub field_reader : IsReader IsFieldAt FirstFault field_at
unfolding FoundAt
field_reader = record {
  taken = λ at field spelling rest h. field_taken at field spelling rest h;
  found = λ at bytes field rest e. subst (FoundAt at bytes) e (found_at at bytes (field_at at bytes) (reads_field at bytes));
  not_empty = λ at field spelling h. omega (arith, varint_not_empty _ h.spelled.tag h.spelled.is_tag, ap length h.spelled.parts, length-append h.spelled.tag h.spelled.value);
  fault = λ at bytes kind e. subst (FoundAt at bytes) e (found_at at bytes (field_at at bytes) (reads_field at bytes));
  only_fault = λ at bytes kind h. field_only at bytes h;
}

-- ---- where what is left begins

abbrev place_left : Left WireField → Option ℕ
place_left left = next_place left.items left.fault

begins_as_read : (at : ℕ) (bytes : List ℕ) → false ≡ (length bytes == 0) → (read : Result (WireField × List ℕ) WireKind) → field_at at bytes ≡ read → place_left (left_at field_at at 0 bytes) ≡ Some at
begins_as_read at bytes some (Ok found) e =
    ap place_left (next_first IsFieldAt FirstFault field_at field_reader at bytes found.0 found.1 e)
    ∙ ap Some (field_reader.found at bytes found.0 found.1 e).2.place
begins_as_read at bytes some (Err kind) e = ap place_left (left_if_fault field_at at bytes kind some e)

pub begins_at : (at : ℕ) (bytes : List ℕ) → false ≡ (length bytes == 0) → place_left (left_at field_at at 0 bytes) ≡ Some at
begins_at at bytes some = begins_as_read at bytes some (field_at at bytes) refl

-- ---- the laws of fields

is_at_0 : (field : WireField) (spelling : List ℕ) → IsFieldOf field spelling → IsFieldAt 0 (record { number = field.number; at = 0; value = field.value }) spelling
is_at_0 field spelling h = record {
  place = refl;
  spelled = record { positive = h.positive; in_range = h.in_range; tag = h.tag; value = h.value; parts = h.parts; is_tag = h.is_tag; is_value = h.is_value };
}

pub field_prefix : (field other : WireField) (spelling longer more : List ℕ) → IsFieldOf field spelling → IsFieldOf other longer → longer ≡ spelling ++ more → more ≡ []
field_prefix field other spelling longer more p q e =
    no_longer IsFieldAt FirstFault field_at field_reader 0 _ _ spelling longer more (is_at_0 field spelling p) (is_at_0 other longer q) e
