-- Where the bytes of a message's first field stand, and what a sample's front tells.
use Rattle.std.proofs.Common.{◌≡◌, ℕ, ◌+◌, ◌-◌, ◌<◌, ◌≤◌, List, [], ◌∷◌, ◌++◌, length, Option, Some, None, take, drop, refl, sym, ◌∙◌, ap, subst, append_assoc, length-append, arith, append-nil, zero-add, length-drop, zero, suc, get_or, true, false, cond}
use Rattle.std.specs.Prelude.{slice_range, flat_map, slice_index, unwrap_or, ◌==◌}
use Rattle.std.proofs.Math.Seq.{take-append_seam}
use Rattle.std.proofs.lemmas.List.{take-take, drop-drop, drop-take, length-take}
use Rattle.std.proofs.lemmas.Grind.{common_steps}
use Rattle.wire_fields.specs.Field.{WireField, delimited_bytes}
use Rattle.wire_fields.specs.Spelling.{IsFieldOf, IsValueOf}
use Rattle.wire_fields.specs.Reading.{Left, IsReadingOfFields, next_place, fields_of, numbers_of}
use Rattle.wire_fields.specs.declared.fault.WireFault.{WireFault}
use Rattle.profile_tables.specs.declared.fronts.Values.{Values}
use Rattle.profile_messages.specs.declared.messages.Span.{Span}
use Rattle.stack_core.specs.declared.endings.ReadKind.{ReadKind}
use Rattle.profile_messages.specs.Message.{first, bytes_in, repeated_from}
use Rattle.profile_messages.specs.Shapes.{faults_in, faults_of_field, sample_shape, kinds_of_fault}
use Rattle.profile_tables.specs.Samples.{SampleTables, location_ids, values_of, weight_of}
use Rattle.profile_messages.specs.Offsets.{content_at, bytes_or_none}
use Rattle.profile_tables.specs.checked.Fronts.{bytes_at, IsFirstHeld, with_value, with_values, no_values, AreValuesIn, IsFront}

-- the bytes end at this place of the message
pub record EndsAtPlace (message bytes : List ℕ) (past : ℕ) : Type 0 where
  pub fits : length bytes ≤ past
  pub within : past ≤ length message
  pub there : slice_range message (past - length bytes) past ≡ bytes

drop-length : (front back : List ℕ) → drop (length front) (front ++ back) ≡ back
drop-length [] back = refl
drop-length (x ∷ front) back = drop-length front back

ends_at : (message head bytes tail : List ℕ) (past : ℕ) → message ≡ head ++ (bytes ++ tail) → past ≡ length head + length bytes → EndsAtPlace message bytes past
ends_at message head bytes tail past is past_is =
    let start : past - length bytes ≡ length head = omega (arith, past_is) in
    let size : past - length head ≡ length bytes = omega (arith, past_is) in
    let all : length message ≡ length head + (length bytes + length tail) =
    ap (λ (list : List ℕ). length list) is ∙ length-append head (bytes ++ tail) ∙ ap (λ n. length head + n) (length-append bytes tail) in
    record {
      fits = omega (arith, past_is);
      within = omega (arith, past_is, all);
      there =
          ap (λ n. slice_range message n past) start
          ∙ ap (λ (list : List ℕ). take (past - length head) (drop (length head) list)) is
          ∙ ap (λ (list : List ℕ). take (past - length head) list) (drop-length head (bytes ++ tail))
          ∙ ap (λ n. take n (bytes ++ tail)) size
          ∙ take-append_seam bytes tail;
    }

record Ends (spelling bytes : List ℕ) : Type 0 where
  head : List ℕ
  parts : spelling ≡ head ++ bytes

-- a field's spelling ends with the bytes that it holds
field_ends : (field : WireField) (spelling bytes : List ℕ) → field.value ≡ delimited_bytes bytes → IsFieldOf field spelling → Ends spelling bytes
field_ends field spelling bytes holds is =
    let value : IsValueOf (delimited_bytes bytes) is.value = subst (λ v. IsValueOf v is.value) holds is.is_value in
    record {
      head = is.tag ++ value.0;
      parts = is.parts ∙ ap (λ list. is.tag ++ list) value.2 ∙ sym (append_assoc is.tag value.0 bytes);
    }

ends-spelling : (message spelling bytes tail : List ℕ) (past : ℕ) → Ends spelling bytes → message ≡ spelling ++ tail → past ≡ length spelling → EndsAtPlace message bytes past
ends-spelling message spelling bytes tail past ends is past_is =
    ends_at message ends.head bytes tail past
    (is ∙ ap (λ list. list ++ tail) ends.parts ∙ append_assoc ends.head bytes tail)
    (past_is ∙ ap (λ (list : List ℕ). length list) ends.parts ∙ length-append ends.head bytes)

-- the first field ends where what is left behind it begins, or the message ends
pub first-ends : (message bytes : List ℕ) (field : WireField) (behind : List WireField) (fault : Option WireFault) → IsReadingOfFields message (record { items = field ∷ behind; fault = fault }) → field.value ≡ delimited_bytes bytes → EndsAtPlace message bytes (unwrap_or (next_place behind fault) (length message))
first-ends message bytes field [] None reading holds =
    let spelled = reading.spelled in
    let whole : message ≡ spelled.0 =
    reading.parts ∙ ap (λ list. reading.front ++ list) reading.ending ∙ append-nil reading.front ∙ spelled.2 ∙ ap (λ list. spelled.0 ++ list) spelled.4 ∙ append-nil spelled.0 in
    ends-spelling message spelled.0 bytes [] (length message)
    (field_ends field spelled.0 bytes holds spelled.3.spelled)
    (whole ∙ sym (append-nil spelled.0))
    (ap (λ (list : List ℕ). length list) whole)
first-ends message bytes field [] (Some fault) reading holds =
    let spelled = reading.spelled in
    let front : reading.front ≡ spelled.0 = spelled.2 ∙ ap (λ list. spelled.0 ++ list) spelled.4 ∙ append-nil spelled.0 in
    ends-spelling message spelled.0 bytes reading.rest fault.at
    (field_ends field spelled.0 bytes holds spelled.3.spelled)
    (reading.parts ∙ ap (λ list. list ++ reading.rest) front)
    (reading.ending.1 ∙ ap (λ (list : List ℕ). length list) front)
first-ends message bytes field (next ∷ behind) fault reading holds =
    let spelled = reading.spelled in
    ends-spelling message spelled.0 bytes (spelled.1 ++ reading.rest) next.at
    (field_ends field spelled.0 bytes holds spelled.3.spelled)
    (reading.parts ∙ ap (λ list. list ++ reading.rest) spelled.2 ∙ append_assoc spelled.0 spelled.1 reading.rest)
    (spelled.4.3.place ∙ zero-add (length spelled.0))

-- the first field of a message holds these bytes
pub first-held : (message bytes : List ℕ) (left : Left WireField) (field : WireField) (behind : Left WireField) (past : ℕ) → left ≡ fields_of message → IsReadingOfFields message left → left ≡ record { items = field ∷ behind.items; fault = behind.fault } → field.value ≡ delimited_bytes bytes → past ≡ unwrap_or (next_place behind.items behind.fault) (length message) → IsFirstHeld message field.number (record { start = past - length bytes; end = past }) behind
first-held message bytes left field behind past exact reading is holds place =
    let ends : EndsAtPlace message bytes past =
    subst (EndsAtPlace message bytes) (sym place)
    (first-ends message bytes field behind.items behind.fault (subst (λ (read : Left WireField). IsReadingOfFields message read) is reading) holds) in
    record {
      order = omega arith;
      within = ends.within;
      field = field;
      fields = sym exact ∙ is;
      number_is = refl;
      holds = holds ∙ ap delimited_bytes (sym ends.there);
    }

-- ---- values, one after another

pub with_values-append : (chosen : ℕ) (values : Values) (some more : List ℕ) → with_values chosen values (some ++ more) ≡ with_values chosen (with_values chosen values some) more
with_values-append chosen values [] more = refl
with_values-append chosen values (value ∷ some) more = with_values-append chosen (with_value chosen values value) some more

counted : (chosen : ℕ) (values : Values) (more : List ℕ) → (with_values chosen values more).count ≡ values.count + length more
counted chosen values [] = omega arith
counted chosen values (value ∷ more) = let later = counted chosen (with_value chosen values value) more in omega (arith, later)

differ : (m n : ℕ) → n < m → (m == n) ≡ false
differ m n lt = grind (arith, common_steps)

before_it : (m n k : ℕ) → n ≡ m + suc k → (m == n) ≡ false
before_it m n k is = grind (arith, common_steps)

same-number : (m n : ℕ) → n ≡ m → (m == n) ≡ true
same-number m n is = grind (arith, common_steps)

-- a weight stays once it was found
kept : (chosen : ℕ) (values : Values) (more : List ℕ) → chosen < values.count → (with_values chosen values more).weight ≡ values.weight
kept chosen values [] past = refl
kept chosen values (value ∷ more) past =
    kept chosen (with_value chosen values value) more (omega arith)
    ∙ ap (λ b. cond b value values.weight) (differ values.count chosen past)

found : (chosen : ℕ) (values : Values) (more : List ℕ) (k : ℕ) → chosen ≡ values.count + k → (with_values chosen values more).weight ≡ get_or more k values.weight
found chosen values [] k is = refl
found chosen values (value ∷ more) zero is =
    kept chosen (with_value chosen values value) more (omega arith)
    ∙ ap (λ b. cond b value values.weight) (same-number values.count chosen (is ∙ omega arith))
found chosen values (value ∷ more) (suc k) is =
    found chosen (with_value chosen values value) more k (omega arith)
    ∙ ap (λ b. get_or more k (cond b value values.weight)) (before_it values.count chosen k is)

-- ---- a front

-- a part of a part behind a place
part-of-part : (bytes : List ℕ) (at : ℕ) (outer inner : Span) → inner.start ≤ inner.end → outer.start + inner.end ≤ outer.end → slice_range bytes (at + outer.start + inner.start) (at + outer.start + inner.end) ≡ bytes_at (bytes_at (drop at bytes) outer) inner
part-of-part bytes at outer inner order within =
    let behind = drop outer.start (drop at bytes) in
    let size : outer.end - outer.start ≡ inner.start + (outer.end - outer.start - inner.start) = omega arith in
    sym (ap (take (inner.end - inner.start)) (ap (λ n. drop inner.start (take n behind)) size ∙ drop-take inner.start (outer.end - outer.start - inner.start) behind)
    ∙ take-take (inner.end - inner.start) (outer.end - outer.start - inner.start) (drop inner.start behind) (omega arith)
    ∙ ap (λ n. take n (drop inner.start behind)) (let e : inner.end - inner.start ≡ at + outer.start + inner.end - (at + outer.start + inner.start) = omega arith in e)
    ∙ ap (take (at + outer.start + inner.end - (at + outer.start + inner.start)))
    (drop-drop inner.start outer.start (drop at bytes) ∙ drop-drop (outer.start + inner.start) at bytes ∙ ap (λ n. drop n bytes) (let e : at + (outer.start + inner.start) ≡ at + outer.start + inner.start = omega arith in e)))

held-bytes : (bytes : List ℕ) (number : ℕ) (place : Span) (behind : Left WireField) → IsFirstHeld bytes number place behind → bytes_or_none (first (fields_of bytes).items) ≡ bytes_at bytes place
held-bytes bytes number place behind held =
    ap (λ (left : Left WireField). bytes_or_none (first left.items)) held.fields
    ∙ ap (λ value. unwrap_or (bytes_in value) []) held.holds

held-number : (field : WireField) (run : List ℕ) → field.number ≡ 1 → field.value ≡ delimited_bytes run → field ≡ record { number = 1; at = field.at; value = delimited_bytes run }
held-number field run number value = λ i. record { number = number i; at = field.at; value = value i }

-- ---- a sample

no_items : (kinds : List ReadKind) → first kinds ≡ None → kinds ≡ []
no_items [] none = refl
no_items (kind ∷ kinds) none = cc

-- what the front of a sample tells: its first field, and the values behind it
module _ (sample : List ℕ) (place : Span) (behind : Left WireField) (held : IsFirstHeld sample 1 place behind) (chosen : ℕ) (values : Values) (more : AreValuesIn chosen behind values) where
  abbrev pub run : List ℕ
  run = bytes_at sample place

  first_is : held.field ≡ record { number = 1; at = held.field.at; value = delimited_bytes run }
  first_is = held-number held.field run held.number_is held.holds

  items_are : (fields_of sample).items ≡ held.field ∷ behind.items
  items_are = ap (λ (left : Left WireField). left.items) held.fields

  fault_is : (fields_of sample).fault ≡ None
  fault_is = ap (λ (left : Left WireField). left.fault) held.fields ∙ more.no_end_fault

  pub front-faults : first (faults_in sample_shape sample) ≡ first (kinds_of_fault (numbers_of run).fault)
  front-faults =
      let others = flat_map (faults_of_field sample_shape) behind.items in
      let none : others ≡ [] = no_items others more.no_fault in
      ap first
      (ap (λ list. flat_map (faults_of_field sample_shape) list ++ kinds_of_fault (fields_of sample).fault) items_are
      ∙ ap (λ fault. (faults_of_field sample_shape held.field ++ others) ++ kinds_of_fault fault) fault_is
      ∙ append-nil (faults_of_field sample_shape held.field ++ others)
      ∙ ap (λ list. faults_of_field sample_shape held.field ++ list) none
      ∙ append-nil (faults_of_field sample_shape held.field)
      ∙ ap (faults_of_field sample_shape) first_is)

  pub front-ids : location_ids sample ≡ (numbers_of run).items
  front-ids =
      ap (flat_map (repeated_from 1)) items_are
      ∙ ap (λ list. repeated_from 1 held.field ++ list) more.no_ids
      ∙ append-nil (repeated_from 1 held.field)
      ∙ ap (repeated_from 1) first_is

  values_here : values_of sample ≡ flat_map (repeated_from 2) behind.items
  values_here =
      ap (flat_map (repeated_from 2)) items_are
      ∙ ap (λ list. list ++ flat_map (repeated_from 2) behind.items) (ap (repeated_from 2) first_is)

  pub front-count : length (values_of sample) ≡ values.count
  front-count =
      ap (λ (list : List ℕ). length list) values_here
      ∙ sym (zero-add (length (flat_map (repeated_from 2) behind.items)))
      ∙ sym (counted chosen no_values (flat_map (repeated_from 2) behind.items))
      ∙ ap (λ (all : Values). all.count) (sym more.values_are)

  pub front-weight : values.weight ≡ slice_index (values_of sample) chosen
  front-weight =
      ap (λ (all : Values). all.weight) more.values_are
      ∙ found chosen no_values (flat_map (repeated_from 2) behind.items) chosen (sym (zero-add chosen))
      ∙ ap (λ list. slice_index list chosen) (sym values_here)

-- the front of the sample at a place
pub front-is : (file : List ℕ) (at number : ℕ) (tables : SampleTables) (outer inner : Span) (past behind : Left WireField) (values : Values) → at ≤ length file → IsFirstHeld (drop at file) number outer past → IsFirstHeld (bytes_at (drop at file) outer) 1 inner behind → AreValuesIn (unwrap_or tables.chosen 0) behind values → values.count ≡ tables.sample_types → IsFront file at tables (record { start = at + outer.start + inner.start; end = at + outer.start + inner.end }) values.weight
front-is file at number tables outer inner past behind values le held ids more count =
    let sample = bytes_at (drop at file) outer in
    let chosen = unwrap_or tables.chosen 0 in
    let there : content_at file at ≡ sample = held-bytes (drop at file) number outer past held in
    let size : length sample ≤ outer.end - outer.start = omega (arith, length-take (outer.end - outer.start) (drop outer.start (drop at file))) in
    let order = ids.order in
    let within = ids.within in
    let order' = held.order in
    let within' = held.within in
    let all : length (drop at file) ≡ length file - at = length-drop at file in
    let same : slice_range file (at + outer.start + inner.start) (at + outer.start + inner.end) ≡ bytes_at sample inner =
    part-of-part file at outer inner order (omega (arith, size, within, order')) in
    record {
      order = omega (arith, order);
      within = omega (arith, size, within, order', within', all, le);
      faults =
          ap (λ list. first (faults_in sample_shape list)) there ∙ front-faults sample inner behind ids chosen values more
          ∙ ap (λ list. first (kinds_of_fault (numbers_of list).fault)) (sym same);
      ids =
          ap location_ids there ∙ front-ids sample inner behind ids chosen values more
          ∙ ap (λ list. (numbers_of list).items) (sym same);
      count = ap (λ (list : List ℕ). length (values_of list)) there ∙ front-count sample inner behind ids chosen values more ∙ count;
      weight_is = front-weight sample inner behind ids chosen values more ∙ ap (λ (list : List ℕ). weight_of tables.chosen list) (sym there);
    }
