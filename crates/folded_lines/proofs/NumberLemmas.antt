-- The numbers of a folded line.
use Rattle.std.proofs.Common.{◌≡◌, ℕ, zero, suc, ◌+◌, ◌*◌, ◌<◌, ◌≤◌, min, Bool, true, false, ◌||◌, ◌&&◌, List, [], ◌∷◌, length, take, slice_index, ◌-◌, refl, sym, ap, ◌∙◌, arith}
use Rattle.std.specs.List.{list_all}
use Rattle.std.specs.Char.{is_ascii_digit}
use Rattle.std.specs.Char.{digit_value}
use Rattle.std.specs.Str.Parse.{digits_value}
use Rattle.std.proofs.lemmas.Bool.Decides.{nat_tests}
use Rattle.std.proofs.lemmas.Int.Digits.{digits_value_more}
use Rattle.std.proofs.lemmas.Str.{digit_value_digit}
use Rattle.sample_tables.specs.declared.samples.TheConstants.{WEIGHT_LIMIT}
use Rattle.std.proofs.lemmas.Bool.{and_parts, or_parts}
use Rattle.folded_lines.specs.Lines.{is_number, has_point, is_point}

or_false : (a b : Bool) → (a || b) ≡ true → b ≡ false → a ≡ true
or_false true b one other = refl
or_false false b one other = one' b one other
  where
    one' : (b : Bool) → b ≡ true → b ≡ false → false ≡ true
    one' b one other = cc

pub and_true : (a b : Bool) → a ≡ true → b ≡ true → (a && b) ≡ true
and_true true b one two = two
and_true false b one two = cc

digits_alone : (text : List ℕ) → list_all (λ b. is_ascii_digit b || is_point b) text ≡ true → has_point text ≡ false → list_all is_ascii_digit text ≡ true
digits_alone [] all none = refl
digits_alone (b ∷ text) all none =
    let here = and_parts _ _ all in
    let not_here = or_parts _ _ none in
    and_true _ _ (or_false (is_ascii_digit b) (is_point b) here.0 not_here.0) (digits_alone text here.1 not_here.1)

-- a number without a point is digits
pub digits-from_is_number : (text : List ℕ) → is_number text ≡ true → has_point text ≡ false → list_all is_ascii_digit text ≡ true
digits-from_is_number text number none = digits_alone text (and_parts _ _ (and_parts _ _ number).1).0 none

capped : (v w b d : ℕ) → w ≡ min v (WEIGHT_LIMIT + 1) → d + 48 ≡ b → min (w * 10 + (b - 48)) (WEIGHT_LIMIT + 1) ≡ min (v * 10 + d) (WEIGHT_LIMIT + 1)
capped v w b d is digit = omega arith

pub digit_at : (digits : List ℕ) (i : ℕ) → list_all is_ascii_digit digits ≡ true → i < length digits → is_ascii_digit (slice_index digits i) ≡ true
digit_at [] i all within = absurd (omega arith)
digit_at (b ∷ digits) zero all within = (and_parts _ _ all).0
digit_at (b ∷ digits) (suc i) all within = digit_at digits i (and_parts _ _ all).1 (omega arith)

pub range_of : (b : ℕ) → is_ascii_digit b ≡ true → (48 ≤ b) × (b ≤ 57)
range_of b is = grind (arith, nat_tests)

-- one digit more
pub weight_step : (digits : List ℕ) (i w : ℕ) → list_all is_ascii_digit digits ≡ true → i < length digits → w ≡ min (digits_value 10 (take i digits)) (WEIGHT_LIMIT + 1)
    → min (w * 10 + (slice_index digits i - 48)) (WEIGHT_LIMIT + 1) ≡ min (digits_value 10 (take (i + 1) digits)) (WEIGHT_LIMIT + 1)
weight_step digits i w all within is =
    let b = slice_index digits i in
    capped _ w b (digit_value b) is (digit_value_digit b (range_of b (digit_at digits i all within)))
    ∙ ap (λ v. min v (WEIGHT_LIMIT + 1)) (sym (digits_value_more 10 digits i within))
