-- Columns by the places of their numbers.
use Rattle.std.proofs.Common.{◌≡◌, ℕ, zero, suc, ◌+◌, ◌<◌, ◌&&◌, List, [], ◌∷◌, length, drop, get_or, refl, sym, ap, ◌∙◌, arith, lt-ltb}
use Rattle.std.specs.Prelude.{nat_lt}
use Rattle.std.proofs.lemmas.Bool.Decides.{Decides-ltb, same_from_decides}
use Rattle.page_texts.specs.Columns.{is_on}
use Rattle.page_texts.specs.declared.kept_boxes.KeptBox.{KeptBox}
use Rattle.page_texts.specs.declared.kept_boxes.Column.{Column}
use Rattle.page_texts.specs.checked.Kept.{span_in, no_kept, number_in, numbers_of, before_at, is_under_at}

pub numbers-length : (column : Column) (before : KeptBox) (boxes : List KeptBox) → length (numbers_of column before boxes) ≡ length boxes
numbers-length column before [] = refl
numbers-length column before (box ∷ later) = ap suc (numbers-length column box later)

-- from a place on
pub numbers-drop : (column : Column) (before : KeptBox) (boxes : List KeptBox) (at : ℕ)
    → numbers_of column (before_at before boxes at) (drop at boxes) ≡ drop at (numbers_of column before boxes)
numbers-drop column before boxes zero = refl
numbers-drop column before [] (suc at) = refl
numbers-drop column before (box ∷ later) (suc zero) = refl
numbers-drop column before (box ∷ later) (suc (suc at)) = numbers-drop column box later (suc at)

shifted : (a b : ℕ) → nat_lt (suc a) (suc b) ≡ nat_lt a b
shifted a b =
    let both = Decides-ltb (suc a) (suc b) in
    same_from_decides {P = a < b} (nat_lt (suc a) (suc b)) (nat_lt a b) (λ t. omega (arith, both.0 t), λ l. both.1 (omega (arith, l))) (Decides-ltb a b)

under_later : (box : KeptBox) (later : List KeptBox) (at : ℕ) → is_under_at later at ≡ is_under_at (box ∷ later) (suc at)
under_later box later at =
    let next : suc (at + 1) ≡ suc at + 1 = omega arith in
    ap (λ b. b && is_on (span_in (get_or later at no_kept)) (span_in (get_or later (at + 1) no_kept))) (sym (shifted (at + 1) (length later)))
    ∙ ap (λ n. nat_lt n (suc (length later)) && is_on (span_in (get_or later at no_kept)) (span_in (get_or (box ∷ later) n no_kept))) next

-- at a place
pub number-at : (column : Column) (before : KeptBox) (boxes : List KeptBox) (at : ℕ) → at < length boxes
    → get_or (numbers_of column before boxes) at 0 ≡ number_in column (before_at before boxes at) (get_or boxes at no_kept) (is_under_at boxes at)
number-at column before [] at within = absurd (omega arith)
number-at column before (box ∷ []) zero within = refl
number-at column before (box ∷ next ∷ later) zero within =
    let some : 1 < length (box ∷ next ∷ later) = omega arith in
    rw (lt-ltb 1 (length (box ∷ next ∷ later)) some) refl
number-at column before (box ∷ later) (suc zero) within =
    number-at column box later zero (omega arith) ∙ ap (number_in column box (get_or later 0 no_kept)) (under_later box later 0)
number-at column before (box ∷ later) (suc (suc at)) within =
    number-at column box later (suc at) (omega arith) ∙ ap (number_in column (get_or later at no_kept) (get_or later (suc at) no_kept)) (under_later box later (suc at))
