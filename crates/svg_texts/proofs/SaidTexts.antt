-- Texts of a picture between its tags: no markup, and characters of XML alone where names are UTF-8.
use Rattle.std.proofs.Common.{◌≡◌, ℕ, ◌+◌, ◌-◌, ◌*◌, ◌^◌, ◌<◌, ◌≤◌, ◌⊎◌, inl, inr, Bool, true, false, cond, ◌&&◌, ◌||◌, ◌==◌, eqb, leb, nat_lt, nat_le, List, [], ◌∷◌, ◌++◌, length, Option, Some, None, unwrap_or, find, ltb, refl, sym, ap, ap₂, ◌∙◌, arith, le-ltb, lt-ltb}
use Rattle.std.proofs.lemmas.Bool.{and_from, and_left, and_parts, and_right, cases_Bool, both_ways, cases_lt, eqb-true, le-leb, leb-true, lt-leb, ne_eqb, not_from_false, or_from, or_cases, or_left, or_right, or_parts}
use Rattle.std.proofs.lemmas.Str.{chars-encodes, encode_ascii, encodes-append, scalars-chars}
use Rattle.std.proofs.Math.Utf8.{low_scalar}
use lib.Utf8.{encode, scalar_cases}
use Rattle.std.specs.Char.{IsScalar}
use Rattle.std.specs.Int.{abs_diff, is_in_range}
use Rattle.std.specs.List.{flat_map, list_all, AllByRecursion}
use Rattle.std.specs.Prelude.{codes, IsUtf8}
use Rattle.std.specs.Str.{all_scalars, bytes_eq, chars, encode_utf8_all}
use Rattle.view_texts.specs.Quotients.{grouped, quotient_text}
use Rattle.function_sums.specs.declared.changes.Change.{Change}
use Rattle.view_texts.specs.Shares.{hundredths, points_text, share_text}
use Rattle.view_texts.specs.WeightTexts.{Step, step, step_of, stepped, time_steps, size_steps, unit_after, measure_of, measured_text, weight_text, change_sign, percent_change, change_text}
use Rattle.svg_texts.specs.Changes.{said_change, said_of}
use Rattle.svg_texts.specs.Labels.{places, places_of, front, cut, change_label, count_characters, label, label_of}
use Rattle.svg_texts.specs.Shown.{is_unseen, number_text, visible, visible_character, xml_text, shown}
use Rattle.svg_texts.specs.declared.changes.Compared.{Compared}
use Rattle.svg_texts.specs.SvgLaws.{is_inert, is_of_xml, is_seen, IsXmlText}
use Rattle.svg_texts.proofs.Figures.{all-append, all-weaker, is_printed, is_quiet, AreQuiet, quiet, quiet_printed, quiet_calm, quiet-grouped, quiet-quotient, quiet-percent, quiet-points, quiet-number}
use Rattle.svg_texts.proofs.Inert.{inert-append, inert-calm, inert-xml}
use Rattle.svg_texts.proofs.Utf8.{escaped, all_encoded}

-- ---- texts of characters of XML that are seen

abbrev pub is_fit : ℕ → Bool
is_fit character = is_of_xml character && is_seen character

pub record OfXml (text : List ℕ) : Type 0 where
  pub characters : List ℕ
  pub each : list_all is_fit characters ≡ true
  pub encoded : encode_utf8_all characters ≡ text

pub xml-both : (one other : List ℕ) → OfXml one → OfXml other → OfXml (one ++ other)
xml-both one other first second =
    record {
      characters = first.characters ++ second.characters;
      each = all-append is_fit first.characters second.characters first.each second.each;
      encoded = encodes-append first.characters second.characters ∙ ap₂ (λ s t. s ++ t) first.encoded second.encoded;
    }

in_range : (low high c : ℕ) → low ≤ c → c ≤ high → is_in_range low high c ≡ true
in_range low high c above below = and_from (leb low c) (leb c high) (le-leb low c above) (le-leb c high below)

range_parts : (low high c : ℕ) → is_in_range low high c ≡ true → (low ≤ c) × (c ≤ high)
range_parts low high c is =
    let parts = and_parts (leb low c) (leb c high) is in
    (leb-true low c parts.0, leb-true c high parts.1)

outside_low : (low high c : ℕ) → c < low → is_in_range low high c ≡ false
outside_low low high c below = and_left (leb low c) (leb c high) (lt-leb low c below)

-- what ASCII prints is seen
low_seen : (c : ℕ) → 32 ≤ c → c ≤ 126 → is_seen c ≡ true
low_seen c above below = or_right (c == 10) _ (not_from_false (is_unseen c) unseen)
  where
    past : is_in_range 0 31 c ≡ false
    past = and_right (leb 0 c) (leb c 31) (lt-leb c 31 (omega (arith, above)))

    other : (n : ℕ) → 127 ≤ n → (c == n) ≡ false
    other n high = ne_eqb c n (λ (same : c ≡ n). omega (arith, same, high, below))

    before : (low high : ℕ) → 127 ≤ low → is_in_range low high c ≡ false
    before low high after = outside_low low high c (omega (arith, below, after))

    unseen : is_unseen c ≡ false
    unseen =
        or_from _ _ past (or_from _ _ (before 127 159 (omega arith)) (or_from _ _ (other 173 (omega arith)) (or_from _ _ (other 1564 (omega arith)) (or_from _ _ (other 6158 (omega arith)) (or_from _ _ (other 8203 (omega arith))
        (or_from _ _ (before 8206 8207 (omega arith)) (or_from _ _ (before 8232 8238 (omega arith)) (or_from _ _ (before 8288 8303 (omega arith)) (or_from _ _ (other 65279 (omega arith))
        (or_from _ _ (before 65529 65531 (omega arith)) (before 65534 65535 (omega arith))))))))))))

low_of_xml : (c : ℕ) → 32 ≤ c → c ≤ 55295 → is_of_xml c ≡ true
low_of_xml c above below = or_right (c == 9) _ (or_right (c == 10) _ (or_right (c == 13) _ (or_left (is_in_range 32 55295 c) _ (in_range 32 55295 c above below))))

printed : (byte : ℕ) → is_printed byte ≡ true → (is_fit byte ≡ true) × (byte < 128)
printed byte is = by (cases_Bool (byte == 10))
  where
    by : ((byte == 10) ≡ true) ⊎ ((byte == 10) ≡ false) → (is_fit byte ≡ true) × (byte < 128)
    by (inl feed) = let same = eqb-true byte 10 feed in (rw same refl, omega (arith, same))
    by (inr other) =
        let range = range_parts 32 126 byte (rw other at is) in
        (and_from (is_of_xml byte) (is_seen byte) (low_of_xml byte range.0 (omega (arith, range.1))) (low_seen byte range.0 range.1), omega (arith, range.1))

printed_each : (text : List ℕ) → list_all is_printed text ≡ true → list_all is_fit text ≡ true
printed_each text all = all-weaker is_printed is_fit (λ byte is. (printed byte is).0) text all

printed_encoded : (text : List ℕ) → list_all is_printed text ≡ true → encode_utf8_all text ≡ text
printed_encoded [] all = refl
printed_encoded (byte ∷ rest) all =
    let parts = and_parts (is_printed byte) (list_all is_printed rest) all in
    ap₂ (λ s t. s ++ t) (encode_ascii byte (printed byte parts.0).1) (printed_encoded rest parts.1)

pub xml-printed : (text : List ℕ) → list_all is_printed text ≡ true → OfXml text
xml-printed text all = record { characters = text; each = printed_each text all; encoded = printed_encoded text all }

-- characters of XML are those of a text
scalar_of_xml : (c : ℕ) → is_of_xml c ≡ true → IsScalar c
scalar_of_xml c is = first (or_cases (c == 9) _ is)
  where
    low : c < 55296 → IsScalar c
    low below = low_scalar c below

    high : 57344 ≤ c → c < 1114112 → IsScalar c
    high above below = rw (le-ltb c 55296 (omega (arith, above))) (and_from (leb 57344 c) (ltb c 1114112) (le-leb 57344 c above) (lt-ltb c 1114112 below))

    Range : ℕ → ℕ → Type 0
    Range least most = is_in_range least most c ≡ true

    ranges : Range 32 55295 ⊎ ((is_in_range 57344 65533 c || is_in_range 65536 1114111 c) ≡ true) → IsScalar c
    ranges (inl range) = low (omega (arith, range_parts 32 55295 c range))
    ranges (inr others) = later (or_cases (is_in_range 57344 65533 c) (is_in_range 65536 1114111 c) others)
      where
        later : Range 57344 65533 ⊎ Range 65536 1114111 → IsScalar c
        later (inl range) = high (range_parts 57344 65533 c range).0 (omega (arith, range_parts 57344 65533 c range))
        later (inr range) = high (omega (arith, range_parts 65536 1114111 c range)) (omega (arith, range_parts 65536 1114111 c range))

    third : ((c == 13) ≡ true) ⊎ ((is_in_range 32 55295 c || (is_in_range 57344 65533 c || is_in_range 65536 1114111 c)) ≡ true) → IsScalar c
    third (inl same) = low (omega (arith, eqb-true c 13 same))
    third (inr others) = ranges (or_cases (is_in_range 32 55295 c) _ others)

    second : ((c == 10) ≡ true) ⊎ (((c == 13) || (is_in_range 32 55295 c || (is_in_range 57344 65533 c || is_in_range 65536 1114111 c))) ≡ true) → IsScalar c
    second (inl same) = low (omega (arith, eqb-true c 10 same))
    second (inr others) = third (or_cases (c == 13) _ others)

    first : ((c == 9) ≡ true) ⊎ (((c == 10) || ((c == 13) || (is_in_range 32 55295 c || (is_in_range 57344 65533 c || is_in_range 65536 1114111 c)))) ≡ true) → IsScalar c
    first (inl same) = low (omega (arith, eqb-true c 9 same))
    first (inr others) = second (or_cases (c == 10) _ others)

scalars : (characters : List ℕ) → list_all is_fit characters ≡ true → all_scalars characters ≡ true
scalars [] all = refl
scalars (c ∷ rest) all =
    let parts = and_parts (is_fit c) (list_all is_fit rest) all in
    and_from _ (all_scalars rest) (scalar_of_xml c (and_parts (is_of_xml c) (is_seen c) parts.0).0) (scalars rest parts.1)

pub is_xml : (text : List ℕ) → OfXml text → IsXmlText text
is_xml text known =
    let valid = scalars known.characters known.each in
    let same = ap chars (sym known.encoded) ∙ chars-encodes known.characters valid in
    record {
      utf8 = (known.characters, (valid, known.encoded));
      of_xml = ap (list_all is_of_xml) same ∙ all-weaker is_fit is_of_xml (λ c fit. (and_parts (is_of_xml c) (is_seen c) fit).0) known.characters known.each;
      seen = ap (list_all is_seen) same ∙ all-weaker is_fit is_seen (λ c fit. (and_parts (is_of_xml c) (is_seen c) fit).1) known.characters known.each;
    }

-- ---- texts that are said

pub record IsSaid (given : Type 0) (text : List ℕ) : Type 0 where
  pub inert : is_inert text ≡ true
  pub of_xml : given → OfXml text

module _ {given : Type 0} where
  pub said-both : (one other : List ℕ) → IsSaid given one → IsSaid given other → IsSaid given (one ++ other)
  said-both one other first second =
      record {
        inert = inert-append one other first.inert second.inert;
        of_xml = λ names. xml-both one other (first.of_xml names) (second.of_xml names);
      }

  pub said-quiet : (text : List ℕ) → AreQuiet text → IsSaid given text
  said-quiet text all =
      record {
        inert = inert-calm text (quiet_calm text all);
        of_xml = λ names. xml-printed text (quiet_printed text all);
      }

  -- a part that is written out
  pub literal : (text : List ℕ) → list_all is_quiet text ≡ true → IsSaid given text
  literal text each = said-quiet text (quiet text each)

  pub said-none : IsSaid given []
  said-none = literal [] refl

-- ---- names, titles and units

escaped-xml : (c : ℕ) → is_fit c ≡ true → list_all is_fit (escaped c) ≡ true
unfolding escaped
escaped-xml c is = by (eqb c 38) (eqb c 60) (eqb c 62) (eqb c 34) (eqb c 39)
  where
    by : (amp less more quote tick : Bool)
        → list_all is_fit (cond amp (codes "&amp;") (cond less (codes "&lt;") (cond more (codes "&gt;") (cond quote (codes "&quot;") (cond tick (codes "&#39;") (c ∷ [])))))) ≡ true
    by true less more quote tick = refl
    by false true more quote tick = refl
    by false false true quote tick = refl
    by false false false true tick = refl
    by false false false false true = refl
    by false false false false false = and_from (is_fit c) true is refl

each-escaped : (characters : List ℕ) → list_all is_fit characters ≡ true → list_all is_fit (flat_map escaped characters) ≡ true
each-escaped [] all = refl
each-escaped (c ∷ rest) all =
    let parts = and_parts (is_fit c) (list_all is_fit rest) all in
    all-append is_fit (escaped c) (flat_map escaped rest) (escaped-xml c parts.0) (each-escaped rest parts.1)

pub said-xml : {given : Type 0} (characters : List ℕ) → (given → list_all is_fit characters ≡ true) → IsSaid given (xml_text characters)
said-xml characters all =
    record {
      inert = inert-xml characters;
      of_xml = λ names. record { characters = flat_map escaped characters; each = each-escaped characters (all names); encoded = all_encoded characters };
    }

-- a character that is seen
seen-xml : (c : ℕ) → IsScalar c → is_unseen c ≡ false → is_of_xml c ≡ true
seen-xml c scalar seen =
    let first = or_parts (is_in_range 0 31 c) _ seen in
    let second = or_parts (is_in_range 127 159 c) _ first.1 in
    let third = or_parts (c == 173) _ second.1 in
    let fourth = or_parts (c == 1564) _ third.1 in
    let fifth = or_parts (c == 6158) _ fourth.1 in
    let sixth = or_parts (c == 8203) _ fifth.1 in
    let seventh = or_parts (is_in_range 8206 8207 c) _ sixth.1 in
    let eighth = or_parts (is_in_range 8232 8238 c) _ seventh.1 in
    let ninth = or_parts (is_in_range 8288 8303 c) _ eighth.1 in
    let tenth = or_parts (c == 65279) _ ninth.1 in
    let last = or_parts (is_in_range 65529 65531 c) _ tenth.1 in
    by (outside 0 31 first.0) (outside 65534 65535 last.1) (scalar_cases c scalar)
  where
    outside : (low high : ℕ) → is_in_range low high c ≡ false → low ≤ c → high < c
    outside low high is above = go (cases_lt high c)
      where
        go : ((high < c) ⊎ (c ≤ high)) → high < c
        go (inl past) = past
        go (inr within) = absurd (both_ways (is_in_range low high c) is (in_range low high c above within))

    by : (0 ≤ c → 31 < c) → (65534 ≤ c → 65535 < c) → ((c < 55296) ⊎ ((57344 ≤ c) × (c < 1114112))) → is_of_xml c ≡ true
    by low high (inl below) = low_of_xml c (low (omega arith)) (omega arith)
    by low high (inr above) = go (cases_lt c 65534)
      where
        go : ((c < 65534) ⊎ (65534 ≤ c)) → is_of_xml c ≡ true
        go (inl below) =
            or_right (c == 9) _ (or_right (c == 10) _ (or_right (c == 13) _ (or_right (is_in_range 32 55295 c) _ (or_left (is_in_range 57344 65533 c) _ (in_range 57344 65533 c above.0 (omega arith))))))
        go (inr more) =
            let past = high more in
            or_right (c == 9) _ (or_right (c == 10) _ (or_right (c == 13) _ (or_right (is_in_range 32 55295 c) _ (or_right (is_in_range 57344 65533 c) _
            (in_range 65536 1114111 c (omega arith) (omega (arith, above.1)))))))

visible-xml : (c : ℕ) → IsScalar c → list_all is_fit (visible_character c) ≡ true
visible-xml c scalar = by (cases_Bool (is_unseen c))
  where
    by : (is_unseen c ≡ true) ⊎ (is_unseen c ≡ false) → list_all is_fit (visible_character c) ≡ true
    by (inl unseen) = rw unseen (printed_each (number_text c) (quiet_printed (number_text c) (quiet-number c)))
    by (inr seen) = rw seen (and_from (is_fit c) true (and_from (is_of_xml c) (is_seen c) (seen-xml c scalar seen) (or_right (c == 10) _ (not_from_false (is_unseen c) seen))) refl)

each-visible : (characters : List ℕ) → all_scalars characters ≡ true → list_all is_fit (flat_map visible_character characters) ≡ true
each-visible [] all = refl
each-visible (c ∷ rest) all =
    let parts = and_parts _ (all_scalars rest) all in
    all-append is_fit (visible_character c) (flat_map visible_character rest) (visible-xml c parts.0) (each-visible rest parts.1)

visible_each : (text : List ℕ) → IsUtf8 text → list_all is_fit (visible text) ≡ true
visible_each text is = each-visible (chars text) (scalars-chars text is)

pub said-shown : {given : Type 0} (text : List ℕ) → (given → IsUtf8 text) → IsSaid given (shown text)
unfolding shown
said-shown text is = said-xml (visible text) (λ names. visible_each text (is names))

-- ---- weights

said-step : {given : Type 0} (larger : List Step) (smallest : List ℕ) (count : ℕ) → AllByRecursion (λ it. IsSaid given it.sign) larger → IsSaid given smallest → IsSaid given (step_of larger smallest count).sign
said-step [] smallest count all last = last
said-step {given = given} (it ∷ rest) smallest count all last = by (nat_le (9995 * it.size) (10000 * count)) (said-step rest smallest count all.1 last)
  where
    by : (b : Bool) → IsSaid given (step_of rest smallest count).sign
        → IsSaid given (unwrap_or (cond b (Some it) (find (λ other. nat_le (9995 * other.size) (10000 * count)) rest)) (step 1 smallest)).sign
    by true later = all.0
    by false later = later

said-stepped : {given : Type 0} (it : Step) (count : ℕ) → IsSaid given it.sign → IsSaid given (stepped it count)
said-stepped it count sign =
    said-both (quotient_text count it.size) _ (said-quiet _ (quiet-quotient count it.size)) (said-both (32 ∷ []) it.sign (literal (32 ∷ []) refl) sign)

micro : {given : Type 0} → IsSaid given (encode_utf8_all (codes "µs"))
unfolding encode
micro = record { inert = refl; of_xml = λ names. record { characters = codes "µs"; each = refl; encoded = refl } }

said-counted : {given : Type 0} (unit : List ℕ) (weight : ℕ) → IsSaid given unit → IsSaid given (grouped weight ++ unit_after unit)
said-counted {given = given} unit weight said = said-both (grouped weight) (unit_after unit) (said-quiet _ (quiet-grouped weight)) (by (bytes_eq unit [] || bytes_eq unit (codes "count")))
  where
    by : (b : Bool) → IsSaid given (cond b [] (32 ∷ unit))
    by true = said-none
    by false = said-both (32 ∷ []) unit (literal (32 ∷ []) refl) said

said-time : {given : Type 0} (count : ℕ) → IsSaid given (stepped (step_of time_steps (codes "ns") count) count)
said-time count =
    said-stepped (step_of time_steps (codes "ns") count) count (said-step time_steps (codes "ns") count (literal (codes "s") refl, (literal (codes "ms") refl, (micro, tt))) (literal (codes "ns") refl))

said-size : {given : Type 0} (count : ℕ) → IsSaid given (stepped (step_of size_steps (codes "B") count) count)
said-size count =
    said-stepped (step_of size_steps (codes "B") count) count
    (said-step size_steps (codes "B") count (literal (codes "TiB") refl, (literal (codes "GiB") refl, (literal (codes "MiB") refl, (literal (codes "KiB") refl, tt)))) (literal (codes "B") refl))

pub said-weight : {given : Type 0} (unit : List ℕ) (weight : ℕ) → IsSaid given unit → IsSaid given (weight_text unit weight)
unfolding weight_text
said-weight {given = given} unit weight said =
    by (cases_Bool (bytes_eq unit (codes "nanoseconds"))) (cases_Bool (bytes_eq unit (codes "microseconds"))) (cases_Bool (bytes_eq unit (codes "milliseconds"))) (cases_Bool (bytes_eq unit (codes "seconds")))
    (cases_Bool (bytes_eq unit (codes "bytes"))) (cases_Bool (bytes_eq unit (codes "kilobytes"))) (cases_Bool (bytes_eq unit (codes "megabytes"))) (cases_Bool (bytes_eq unit (codes "gigabytes")))
  where
    Is : List ℕ → Type 0
    Is name = (bytes_eq unit name ≡ true) ⊎ (bytes_eq unit name ≡ false)

    by : Is (codes "nanoseconds") → Is (codes "microseconds") → Is (codes "milliseconds") → Is (codes "seconds") → Is (codes "bytes") → Is (codes "kilobytes") → Is (codes "megabytes") → Is (codes "gigabytes")
        → IsSaid given (measured_text unit weight (measure_of unit))
    by (inl e) micros millis seconds bytes kilos megas gigas = rw e (said-time (1 * weight))
    by (inr n1) (inl e) millis seconds bytes kilos megas gigas = rw (n1, e) (said-time (1000 * weight))
    by (inr n1) (inr n2) (inl e) seconds bytes kilos megas gigas = rw (n1, n2, e) (said-time (1000000 * weight))
    by (inr n1) (inr n2) (inr n3) (inl e) bytes kilos megas gigas = rw (n1, n2, n3, e) (said-time (1000000000 * weight))
    by (inr n1) (inr n2) (inr n3) (inr n4) (inl e) kilos megas gigas = rw (n1, n2, n3, n4, e) (said-size (1 * weight))
    by (inr n1) (inr n2) (inr n3) (inr n4) (inr n5) (inl e) megas gigas = rw (n1, n2, n3, n4, n5, e) (said-size (1024 * weight))
    by (inr n1) (inr n2) (inr n3) (inr n4) (inr n5) (inr n6) (inl e) gigas = rw (n1, n2, n3, n4, n5, n6, e) (said-size (1024 ^ 2 * weight))
    by (inr n1) (inr n2) (inr n3) (inr n4) (inr n5) (inr n6) (inr n7) (inl e) = rw (n1, n2, n3, n4, n5, n6, n7, e) (said-size (1024 ^ 3 * weight))
    by (inr n1) (inr n2) (inr n3) (inr n4) (inr n5) (inr n6) (inr n7) (inr n8) = rw (n1, n2, n3, n4, n5, n6, n7, n8) (said-counted unit weight said)

pub said-share : {given : Type 0} (whole weight : ℕ) → IsSaid given (share_text whole weight)
said-share whole weight = said-quiet (share_text whole weight) (quiet-percent (hundredths whole weight))

-- ---- changes

minus : {given : Type 0} → IsSaid given (encode_utf8_all (codes "−"))
unfolding encode
minus = record { inert = refl; of_xml = λ names. record { characters = codes "−"; each = refl; encoded = refl } }

still : {given : Type 0} → IsSaid given (encode_utf8_all (codes "±0%"))
unfolding encode
still = record { inert = refl; of_xml = λ names. record { characters = codes "±0%"; each = refl; encoded = refl } }

said-percent : {given : Type 0} (before after : ℕ) → IsSaid given (percent_change before after)
said-percent {given = given} before after =
    let quotient = quotient_text (100 * abs_diff before after) before in
    said-both (change_sign before after) _ (sign (nat_lt before after)) (said-both quotient _ (said-quiet quotient (quiet-quotient (100 * abs_diff before after) before)) (literal (codes "%") refl))
  where
    sign : (b : Bool) → IsSaid given (cond b (codes "+") (encode_utf8_all (codes "−")))
    sign true = literal (codes "+") refl
    sign false = minus

pub said-change : {given : Type 0} (before after : ℕ) → IsSaid given (change_text before after)
unfolding change_text
said-change {given = given} before after = by (before == after) (before == 0) (after == 0)
  where
    by : (same new gone : Bool) → IsSaid given (cond same (encode_utf8_all (codes "±0%")) (cond new (codes "new") (cond gone (codes "gone") (percent_change before after))))
    by true new gone = still
    by false true gone = literal (codes "new") refl
    by false false true = literal (codes "gone") refl
    by false false false = said-percent before after

pub said-compared : {given : Type 0} (compared : Compared) → IsSaid given (said_change compared)
said-compared {given = given} compared = by compared.whole
  where
    by : (whole : Option Change) → IsSaid given (said_of whole compared.weights)
    by None = said-change compared.weights.before compared.weights.after
    by (Some whole) =
        let before = hundredths whole.before compared.weights.before in
        let after = hundredths whole.after compared.weights.after in
        said-quiet (points_text before after) (quiet-points before after)

-- ---- labels

front-xml : (room : ℕ) (characters : List ℕ) → list_all is_fit characters ≡ true → list_all is_fit (front room characters) ≡ true
front-xml room [] all = refl
front-xml room (c ∷ rest) all =
    let parts = and_parts (is_fit c) (list_all is_fit rest) all in
    by (nat_le (places c) room) (and_from (is_fit c) _ parts.0 (front-xml (room - places c) rest parts.1))
  where
    by : (b : Bool) → list_all is_fit (c ∷ front (room - places c) rest) ≡ true → list_all is_fit (cond b (c ∷ front (room - places c) rest) []) ≡ true
    by true more = more
    by false more = refl

cut-xml : (characters : List ℕ) → list_all is_fit characters ≡ true → list_all is_fit (cut characters) ≡ true
cut-xml [] all = refl
cut-xml (c ∷ rest) all = all-append is_fit (c ∷ rest) (8230 ∷ []) all refl

said-change_label : {given : Type 0} (room : ℕ) (change : Option Compared) → IsSaid given (change_label room change)
said-change_label room None = said-none
said-change_label {given = given} room (Some compared) = by (nat_le (count_characters (said_change compared) + 1) room)
  where
    by : (b : Bool) → IsSaid given (cond b (32 ∷ said_change compared) [])
    by true = said-both (32 ∷ []) (said_change compared) (literal (32 ∷ []) refl) (said-compared compared)
    by false = said-none

said-label_of : {given : Type 0} (room : ℕ) (characters : List ℕ) (change : Option Compared) → (given → list_all is_fit characters ≡ true) → IsSaid given (label_of room characters change)
said-label_of {given = given} room characters change all = by (nat_le (places_of characters) room)
  where
    by : (b : Bool) → IsSaid given (cond b (xml_text characters ++ change_label (room - places_of characters) change) (xml_text (cut (front (room - 1) characters))))
    by true = said-both (xml_text characters) _ (said-xml characters all) (said-change_label (room - places_of characters) change)
    by false = said-xml (cut (front (room - 1) characters)) (λ names. cut-xml (front (room - 1) characters) (front-xml (room - 1) characters (all names)))

pub said-label : {given : Type 0} (room : ℕ) (name : List ℕ) (change : Option Compared) → (given → IsUtf8 name) → IsSaid given (label room name change)
unfolding label
said-label {given = given} room name change is = by (nat_lt room 2 || (length name == 0))
  where
    by : (b : Bool) → IsSaid given (cond b [] (label_of room (visible name) change))
    by true = said-none
    by false = said-label_of room (visible name) change (λ names. visible_each name (is names))
