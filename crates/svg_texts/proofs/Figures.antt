-- Bytes of numbers, colours and the literal parts of a picture.
use Rattle.std.proofs.Common.{◌≡◌, ℕ, zero, suc, ◌+◌, ◌*◌, ◌/◌, ◌%◌, ◌^◌, ◌<◌, ◌≤◌, ◌⊎◌, inl, inr, Bool, true, false, not, cond, ◌&&◌, ◌||◌, ◌==◌, eqb, List, [], ◌∷◌, ◌++◌, length, decimal, Option, Some, None, refl, subst, arith, pow-suc, mod-lt, div-lt_iff_lt-mul, lt-ltb, le-ltb, nat_lt, ◌-◌}
use Rattle.std.proofs.lemmas.Bool.{and_from, and_parts, cases_Bool, cases_lt, or_right}
use Rattle.std.proofs.lemmas.Bool.Decides.{nat_tests}
use Rattle.std.specs.Fmt.{digits, digits_onto, digit_glyph}
use Rattle.std.specs.Int.{abs_diff, is_in_range}
use Rattle.std.specs.List.{list_all}
use Rattle.std.specs.Prelude.{codes}
use Rattle.view_texts.proofs.Places.{ten_some}
use Rattle.view_texts.specs.Quotients.{comma_before, with_commas, grouped, fraction, placed, decimals, nearest, quotient_text}
use Rattle.view_texts.specs.Shares.{percent_text, points_sign, points_text}
use Rattle.function_sums.specs.FunctionChanges.{share_after, share_before}
use Rattle.function_sums.specs.declared.changes.Change.{Change}
use Rattle.svg_texts.specs.Changes.{colour_by, compared_fill}
use Rattle.svg_texts.specs.Fills.{name_fill, fill_of_number, colour_of, hash_of, saturation, fill_of_shade, shade, change_fill}
use Rattle.svg_texts.specs.Shown.{hexadecimal, number_text}
use Rattle.svg_texts.specs.declared.changes.Compared.{Compared}
use Rattle.svg_texts.proofs.Inert.{is_calm}

-- ---- tests of each byte

pub all-append : (test : ℕ → Bool) (one other : List ℕ) → list_all test one ≡ true → list_all test other ≡ true → list_all test (one ++ other) ≡ true
all-append test [] other first second = second
all-append test (byte ∷ rest) other first second =
    let parts = and_parts (test byte) (list_all test rest) first in
    and_from (test byte) _ parts.0 (all-append test rest other parts.1 second)

pub all-weaker : (test weaker : ℕ → Bool) → ((byte : ℕ) → test byte ≡ true → weaker byte ≡ true) → (text : List ℕ) → list_all test text ≡ true → list_all weaker text ≡ true
all-weaker test weaker passes [] all = refl
all-weaker test weaker passes (byte ∷ rest) all =
    let parts = and_parts (test byte) (list_all test rest) all in
    and_from (weaker byte) _ (passes byte parts.0) (all-weaker test weaker passes rest parts.1)

-- a byte of a literal part: what ASCII prints, and the end of a line
abbrev pub is_printed : ℕ → Bool
is_printed byte = (byte == 10) || is_in_range 32 126 byte

-- one inside a tag
abbrev pub is_inside : ℕ → Bool
is_inside byte = is_in_range 32 126 byte && (not (byte == 60) && not (byte == 62))

-- one that stands for itself wherever it is
abbrev pub is_quiet : ℕ → Bool
is_quiet byte = is_in_range 32 126 byte && is_calm byte

pub record AreQuiet (text : List ℕ) : Type 0 where
  pub each : list_all is_quiet text ≡ true

pub quiet-printed : (byte : ℕ) → is_quiet byte ≡ true → is_printed byte ≡ true
quiet-printed byte quiet = or_right (byte == 10) _ (and_parts (is_in_range 32 126 byte) (is_calm byte) quiet).0

pub inside-printed : (byte : ℕ) → is_inside byte ≡ true → is_printed byte ≡ true
inside-printed byte inside = or_right (byte == 10) _ (and_parts (is_in_range 32 126 byte) _ inside).0

pub quiet-calm : (byte : ℕ) → is_quiet byte ≡ true → is_calm byte ≡ true
quiet-calm byte quiet = (and_parts (is_in_range 32 126 byte) (is_calm byte) quiet).1

pub quiet-inside : (byte : ℕ) → is_quiet byte ≡ true → is_inside byte ≡ true
quiet-inside byte quiet =
    let parts = and_parts (is_in_range 32 126 byte) (is_calm byte) quiet in
    and_from (is_in_range 32 126 byte) _ parts.0 (by (eqb byte 38) (eqb byte 60) (eqb byte 62) _ parts.1)
  where
    by : (amp less more others : Bool) → (not amp && not (less || (more || others))) ≡ true → (not less && not more) ≡ true
    by true less more others calm = absurd (cc)
    by false true more others calm = absurd (cc)
    by false false true others calm = absurd (cc)
    by false false false others calm = refl

-- ---- texts of such bytes

pub quiet : (text : List ℕ) → list_all is_quiet text ≡ true → AreQuiet text
quiet text each = record { each = each }

pub quiet_printed : (text : List ℕ) → AreQuiet text → list_all is_printed text ≡ true
quiet_printed text all = all-weaker is_quiet is_printed quiet-printed text all.each

pub quiet_inside : (text : List ℕ) → AreQuiet text → list_all is_inside text ≡ true
quiet_inside text all = all-weaker is_quiet is_inside quiet-inside text all.each

pub quiet_calm : (text : List ℕ) → AreQuiet text → list_all is_calm text ≡ true
quiet_calm text all = all-weaker is_quiet is_calm quiet-calm text all.each

more : (byte : ℕ) (rest : List ℕ) → is_quiet byte ≡ true → AreQuiet rest → AreQuiet (byte ∷ rest)
more byte rest here later = record { each = and_from (is_quiet byte) _ here later.each }

both : (one other : List ℕ) → AreQuiet one → AreQuiet other → AreQuiet (one ++ other)
both one other first second = record { each = all-append is_quiet one other first.each second.each }

none : AreQuiet []
none = record { each = refl }

-- ---- digits

figure : (byte : ℕ) → 48 ≤ byte → byte ≤ 57 → is_quiet byte ≡ true
figure byte low high = grind (arith, nat_tests)

letter : (byte : ℕ) → 65 ≤ byte → byte ≤ 90 → is_quiet byte ≡ true
letter byte low high = grind (arith, nat_tests)

glyph : (n : ℕ) → n < 10 → is_quiet (digit_glyph false n) ≡ true
glyph n low = rw (lt-ltb n 10 low) (figure (48 + n) (omega arith) (omega arith))

onto : (k n : ℕ) (later : List ℕ) → AreQuiet later → AreQuiet (digits_onto k 10 false n later)
onto zero n later all = all
onto (suc k) n later all = go (onto k (n / 10) (digit_glyph false (n % 10) ∷ later) here) (cases_Bool (n / 10 == 0))
  where
    here : AreQuiet (digit_glyph false (n % 10) ∷ later)
    here = more (digit_glyph false (n % 10)) later (glyph (n % 10) (omega arith)) all

    go : AreQuiet (digits_onto k 10 false (n / 10) (digit_glyph false (n % 10) ∷ later)) → ((n / 10 == 0) ≡ true) ⊎ ((n / 10 == 0) ≡ false) → AreQuiet (digits_onto (suc k) 10 false n later)
    go others (inl e) = rw e here
    go others (inr e) = rw e others

pub quiet-decimal : (n : ℕ) → AreQuiet (decimal n)
unfolding digits
quiet-decimal n = onto 64 n [] none

-- ---- quotients and shares

quiet-commas : (digits : List ℕ) → AreQuiet digits → AreQuiet (with_commas digits)
quiet-commas [] all = none
quiet-commas (digit ∷ digits) all =
    let parts = and_parts (is_quiet digit) (list_all is_quiet digits) all.each in
    more digit (comma_before (length digits) ++ with_commas digits) parts.0
    (both (comma_before (length digits)) (with_commas digits) (comma (nat_lt 0 (length digits) && (length digits % 3 == 0))) (quiet-commas digits (quiet digits parts.1)))
  where
    comma : (b : Bool) → AreQuiet (cond b (44 ∷ []) [])
    comma true = quiet (44 ∷ []) refl
    comma false = none

pub quiet-grouped : (number : ℕ) → AreQuiet (grouped number)
quiet-grouped number = quiet-commas (decimal number) (quiet-decimal number)

quiet-fraction : (places left : ℕ) → left < 10 ^ places → AreQuiet (fraction places left)
quiet-fraction zero left low = none
quiet-fraction (suc places) left low =
    let power = 10 ^ places in
    let some : 0 < power = ten_some places in
    by (left == 0) (digit power some (subst (λ n. left < n) (pow-suc 10 places) low)) (quiet-fraction places (left % 10 ^ places) (mod-lt left some))
  where
    digit : (power : ℕ) → 0 < power → left < power * 10 → left / power < 10
    digit power some few = (div-lt_iff_lt-mul some).1 (omega (arith, few))

    by : (b : Bool) → left / 10 ^ places < 10 → AreQuiet (fraction places (left % 10 ^ places)) → AreQuiet (cond b [] ((48 + left / 10 ^ places) ∷ fraction places (left % 10 ^ places)))
    by true few later = none
    by false few later = more (48 + left / 10 ^ places) (fraction places (left % 10 ^ places)) (figure (48 + left / 10 ^ places) (omega arith) (omega (arith, few))) later

quiet-placed : (places count : ℕ) → AreQuiet (placed places count)
quiet-placed places count =
    both (grouped (count / 10 ^ places)) _ (quiet-grouped (count / 10 ^ places))
    (by (count % 10 ^ places == 0) (quiet-fraction places (count % 10 ^ places) (mod-lt count (ten_some places))))
  where
    by : (b : Bool) → AreQuiet (fraction places (count % 10 ^ places)) → AreQuiet (cond b [] (46 ∷ fraction places (count % 10 ^ places)))
    by true later = none
    by false later = more 46 (fraction places (count % 10 ^ places)) refl later

pub quiet-quotient : (part whole : ℕ) → AreQuiet (quotient_text part whole)
unfolding quotient_text
quiet-quotient part whole = quiet-placed (decimals 20 part whole) (nearest (10 ^ decimals 20 part whole * part) whole)

pub quiet-percent : (parts : ℕ) → AreQuiet (percent_text parts)
quiet-percent parts =
    both (decimal (parts / 100)) _ (quiet-decimal (parts / 100))
    (more 46 _ refl (more (48 + parts / 10 % 10) _ (figure (48 + parts / 10 % 10) (omega arith) (omega arith)) (more (48 + parts % 10) _ (figure (48 + parts % 10) (omega arith) (omega arith)) (quiet (37 ∷ []) refl))))

pub quiet-points : (before after : ℕ) → AreQuiet (points_text before after)
quiet-points before after =
    both (points_sign before after) _ (sign (nat_lt before after) (nat_lt after before)) (quiet-percent (abs_diff before after))
  where
    sign : (more less : Bool) → AreQuiet (cond more (codes "+") (cond less (codes "-") []))
    sign true less = quiet (codes "+") refl
    sign false true = quiet (codes "-") refl
    sign false false = none

-- ---- the number of a character

quiet-hexadecimal : (digit : ℕ) → digit < 16 → is_quiet (hexadecimal digit) ≡ true
quiet-hexadecimal digit low = by (cases_lt digit 10)
  where
    by : ((digit < 10) ⊎ (10 ≤ digit)) → is_quiet (hexadecimal digit) ≡ true
    by (inl few) = rw (lt-ltb digit 10 few) (figure (48 + digit) (omega arith) (omega arith))
    by (inr many) = rw (le-ltb digit 10 many) (letter (55 + digit) (omega arith) (omega arith))

pub quiet-number : (character : ℕ) → AreQuiet (number_text character)
quiet-number character =
    both (codes "[U+") _ (quiet (codes "[U+") refl)
    (digit (character / 4096 % 16) _ (omega arith) (digit (character / 256 % 16) _ (omega arith) (digit (character / 16 % 16) _ (omega arith) (digit (character % 16) _ (omega arith) (quiet (93 ∷ []) refl)))))
  where
    digit : (n : ℕ) (rest : List ℕ) → n < 16 → AreQuiet rest → AreQuiet (hexadecimal n ∷ rest)
    digit n rest low all = more (hexadecimal n) rest (quiet-hexadecimal n low) all

-- ---- colours

quiet-of_number : (number : ℕ) → AreQuiet (fill_of_number number)
quiet-of_number number =
    both (codes "hsl(") _ (quiet (codes "hsl(") refl) (both (decimal (10 * (number % 36))) _ (quiet-decimal (10 * (number % 36)))
    (both (codes ", 48%, ") _ (quiet (codes ", 48%, ") refl) (both (decimal (74 + 4 * (number / 36))) _ (quiet-decimal (74 + 4 * (number / 36))) (quiet (codes "%)") refl))))

pub quiet-name : (name : List ℕ) → AreQuiet (name_fill name)
unfolding name_fill
quiet-name name = quiet-of_number (colour_of (hash_of name))

quiet-of_shade : (hue shade : ℕ) → AreQuiet (fill_of_shade hue shade)
quiet-of_shade hue shade =
    both (codes "hsl(") _ (quiet (codes "hsl(") refl) (both (decimal hue) _ (quiet-decimal hue)
    (both (codes ", ") _ (quiet (codes ", ") refl) (both (decimal (saturation shade / 10)) _ (quiet-decimal (saturation shade / 10))
    (both (codes ".") _ (quiet (codes ".") refl) (both (decimal (saturation shade % 10)) _ (quiet-decimal (saturation shade % 10))
    (both (codes "%, ") _ (quiet (codes "%, ") refl) (both (decimal (88 - 2 * shade)) _ (quiet-decimal (88 - 2 * shade)) (quiet (codes ".0%)") refl))))))))

pub quiet-change : (before after : ℕ) → AreQuiet (change_fill before after)
unfolding change_fill
quiet-change before after = by (before == after)
  where
    by : (b : Bool) → AreQuiet (cond b (fill_of_shade 6 0) (fill_of_shade (cond (nat_lt before after) 6 213) (shade before after)))
    by true = quiet-of_shade 6 0
    by false = quiet-of_shade (cond (nat_lt before after) 6 213) (shade before after)

pub quiet-compared : (compared : Compared) → AreQuiet (compared_fill compared)
quiet-compared compared = by compared.whole
  where
    by : (whole : Option Change) → AreQuiet (colour_by whole compared.weights)
    by None = quiet-change compared.weights.before compared.weights.after
    by (Some whole) = quiet-change (share_before whole compared.weights) (share_after whole compared.weights)
