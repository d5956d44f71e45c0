-- A written weight is a number without a point.
use Rattle.std.proofs.Common.{◌≡◌, ℕ, ◌+◌, ◌^◌, ◌<◌, Bool, true, false, cond, not, ◌||◌, nat_le, List, [], ◌∷◌, length, count_by, refl, ap, ◌∙◌, arith}
use Rattle.std.specs.List.{list_all, list_any}
use Rattle.std.specs.Char.{is_ascii_digit, digit_value}
use Rattle.std.specs.Fmt.{decimal}
use Rattle.std.specs.Str.Parse.{digits_value, AllDigits}
use Rattle.std.proofs.lemmas.Bool.{and_parts, ne_eqb}
use Rattle.std.proofs.lemmas.Bool.Decides.{nat_tests}
use Rattle.std.proofs.lemmas.List.Sums.{sum_by-cons}
use Rattle.std.proofs.lemmas.Fmt.{decimal_is_IsNumeral}
use Rattle.folded_lines.specs.Lines.{is_number, has_point, is_point}
use Rattle.folded_lines.proofs.ColumnLemmas.{is_blank}
use Rattle.folded_lines.proofs.NumberLemmas.{and_true, range_of}

digit_of : (b : ℕ) → digit_value b < 10 → is_ascii_digit b ≡ true
digit_of b low = grind (arith, nat_tests)

all_digits : (ds : List ℕ) → AllDigits 10 ds → list_all is_ascii_digit ds ≡ true
all_digits [] all = refl
all_digits (d ∷ ds) all = and_true _ _ (digit_of d all.0) (all_digits ds all.1)

no_point : (b : ℕ) → is_ascii_digit b ≡ true → is_point b ≡ false
no_point b is = let range = range_of b is in ne_eqb b 46 (λ e. omega arith)

no_blank : (b : ℕ) → is_ascii_digit b ≡ true → not (is_blank b) ≡ true
no_blank b is =
    let range = range_of b is in
    neither _ _ (ne_eqb b 32 (λ e. omega arith)) (ne_eqb b 9 (λ e. omega arith))
  where
    neither : (s t : Bool) → s ≡ false → t ≡ false → not (s || t) ≡ true
    neither s t a c = ap (λ x. not (x || t)) a ∙ ap not c

or_true : (a b : Bool) → a ≡ true → (a || b) ≡ true
or_true a b is = ap (λ x. x || b) is

pub digits_have_no_point : (ds : List ℕ) → list_all is_ascii_digit ds ≡ true → has_point ds ≡ false
digits_have_no_point [] all = refl
digits_have_no_point (d ∷ ds) all =
    let both = and_parts _ _ all in
    ap (λ x. x || list_any is_point ds) (no_point d both.0) ∙ digits_have_no_point ds both.1

pub digits_have_no_blank : (ds : List ℕ) → list_all is_ascii_digit ds ≡ true → list_all (λ b. not (is_blank b)) ds ≡ true
digits_have_no_blank [] all = refl
digits_have_no_blank (d ∷ ds) all =
    let both = and_parts _ _ all in
    and_true _ _ (no_blank d both.0) (digits_have_no_blank ds both.1)

weaker : (ds : List ℕ) → list_all is_ascii_digit ds ≡ true → list_all (λ b. is_ascii_digit b || is_point b) ds ≡ true
weaker [] all = refl
weaker (d ∷ ds) all =
    let both = and_parts _ _ all in
    and_true _ _ (or_true _ _ both.0) (weaker ds both.1)

points_none : (ds : List ℕ) → list_all is_ascii_digit ds ≡ true → count_by is_point ds ≡ 0
points_none [] all = refl
points_none (d ∷ ds) all =
    let both = and_parts _ _ all in
    sum_by-cons (λ b. cond (is_point b) 1 0) d ds ∙ ap (λ x. cond x 1 0 + count_by is_point ds) (no_point d both.0) ∙ omega (arith, points_none ds both.1)

pub digits_are_number : (ds : List ℕ) → list_all is_ascii_digit ds ≡ true → 0 < length ds → is_number ds ≡ true
digits_are_number [] all some = absurd (omega arith)
digits_are_number (d ∷ ds) all some =
    and_true _ _ (and_parts _ _ all).0
    (and_true _ _ (weaker (d ∷ ds) all) (ap (λ n. nat_le n 1) (points_none (d ∷ ds) all)))

-- a written weight
pub record IsWritten (n : ℕ) : Type 0 where
  pub digits : list_all is_ascii_digit (decimal n) ≡ true
  pub some : 0 < length (decimal n)
  pub value : digits_value 10 (decimal n) ≡ n

pub IsWritten-decimal : (n : ℕ) → n < 2 ^ 64 → IsWritten n
IsWritten-decimal n fits =
    let written = decimal_is_IsNumeral n fits in
    record { digits = all_digits (decimal n) written.0.1; some = written.0.0; value = written.1 }
