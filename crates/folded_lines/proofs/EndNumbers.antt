-- A number at the end of a text, looked for from there.
use Rattle.std.proofs.Common.{◌≡◌, ℕ, suc, ◌-◌, ◌<◌, ◌≤◌, true, false, not, Some, List, [], ◌∷◌, ◌++◌, length, take, take_all, drop, length-drop, slice_index, refl, sym, ap, ◌∙◌, arith}
use Rattle.std.specs.List.{list_all}
use Rattle.std.proofs.Math.Seq.{drop-cons}
use Rattle.std.proofs.lemmas.List.{take-append-drop}
use Rattle.std.proofs.lemmas.Bool.{and_parts}
use Rattle.std.proofs.lemmas.Bool.Decides.{nat_tests}
use Rattle.folded_lines.specs.Lines.{columns, ends_in_number, is_number}
use Rattle.folded_lines.specs.checked.Cutting.{is_digit_or_point}
use Rattle.folded_lines.proofs.ColumnLemmas.{columns-at, columns-none, ends_in_number-apart, is_blank}
use Rattle.folded_lines.proofs.NumberLemmas.{and_true}

no_blank : (b : ℕ) → is_digit_or_point b ≡ true → not (is_blank b) ≡ true
no_blank b is = grind (arith, nat_tests)

no_blanks : (text : List ℕ) → list_all is_digit_or_point text ≡ true → list_all (λ b. not (is_blank b)) text ≡ true
no_blanks [] all = refl
no_blanks (b ∷ text) all =
    let both = and_parts _ _ all in
    and_true _ _ (no_blank b both.0) (no_blanks text both.1)

-- one byte more
pub number-longer : (text : List ℕ) (start : ℕ) → 0 < start → start ≤ length text → is_digit_or_point (slice_index text (start - 1)) ≡ true
    → list_all is_digit_or_point (drop start text) ≡ true → list_all is_digit_or_point (drop (start - 1) text) ≡ true
number-longer text start some within here all =
    let next : suc (start - 1) ≡ start = omega (arith, some) in
    ap (list_all is_digit_or_point) (drop-cons text (start - 1) 0 (omega arith))
    ∙ and_true _ _ here (ap (λ n. list_all is_digit_or_point (drop n text)) next ∙ all)

-- nothing but digits and points
pub ends_nowhere : (text : List ℕ) → list_all is_digit_or_point text ≡ true → ends_in_number (columns text) ≡ false
ends_nowhere text all = ap ends_in_number (columns-none text (no_blanks text all))

cut_at : (text : List ℕ) (start : ℕ) → 0 < start → start ≤ length text → text ≡ take (start - 1) text ++ slice_index text (start - 1) ∷ drop start text
cut_at text start some within =
    let next : suc (start - 1) ≡ start = omega (arith, some) in
    sym (take-append-drop (start - 1) text)
    ∙ ap (λ t. take (start - 1) text ++ t) (drop-cons text (start - 1) 0 (omega arith) ∙ ap (λ n. slice_index text (start - 1) ∷ drop n text) next)

-- behind a blank
pub columns_at_blank : (text : List ℕ) (start : ℕ) → 0 < start → start ≤ length text → is_blank (slice_index text (start - 1)) ≡ true → list_all is_digit_or_point (drop start text) ≡ true
    → columns text ≡ Some (take (start - 1) text, drop start text)
columns_at_blank text start some within blank all =
    ap columns (cut_at text start some within)
    ∙ columns-at (take (start - 1) text) (drop start text) (slice_index text (start - 1)) (columns-none (drop start text) (no_blanks (drop start text) all)) blank

-- behind another byte
pub ends_apart : (text : List ℕ) (start : ℕ) → 0 < start → start ≤ length text → is_blank (slice_index text (start - 1)) ≡ false → is_digit_or_point (slice_index text (start - 1)) ≡ false
    → list_all is_digit_or_point (drop start text) ≡ true → ends_in_number (columns text) ≡ false
ends_apart text start some within blank other all =
    ap (λ t. ends_in_number (columns t)) (cut_at text start some within)
    ∙ ends_in_number-apart (slice_index text (start - 1)) (blank, other) (take (start - 1) text) (drop start text)
    ∙ ends_nowhere (drop start text) all

-- what is looked at behind a blank
pub number_behind : (text : List ℕ) (start : ℕ) → take (length text - start) (drop start text) ≡ drop start text
number_behind text start = take_all (length text - start) (drop start text) (omega (arith, length-drop start text))

pub ends_at_blank : (text : List ℕ) (start : ℕ) → 0 < start → start ≤ length text → is_blank (slice_index text (start - 1)) ≡ true → list_all is_digit_or_point (drop start text) ≡ true
    → is_number (take (length text - start) (drop start text)) ≡ ends_in_number (columns text)
ends_at_blank text start some within blank all = ap is_number (number_behind text start) ∙ sym (ap ends_in_number (columns_at_blank text start some within blank all))
