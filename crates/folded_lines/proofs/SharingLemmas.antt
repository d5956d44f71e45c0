-- Heads that begin alike, and the parts into which they are cut.
use Rattle.std.proofs.Common.{◌≡◌, ℕ, zero, suc, ◌+◌, ◌<◌, ◌≤◌, true, false, nat_lt, List, [], ◌∷◌, ◌++◌, length, take, drop, slice_index, refl, sym, ap, ◌∙◌, arith, ⊎_elim, take_all}
use Rattle.std.specs.List.{slice_split, onto_first}
use Rattle.std.proofs.lemmas.Bool.{cases_Bool, cond-true, cond-false}
use Rattle.std.proofs.lemmas.List.{append-nil, length-take, get_or-take, take-take}
use Rattle.std.proofs.lemmas.List.Splits.{slice_split-cons_yes, slice_split-cons_no, length-slice_split}
use Rattle.folded_lines.specs.Lines.{is_semicolon}
use Rattle.folded_lines.specs.checked.Sharing.{IsEnd, IsSharedEnd}

onto_first-append : (x : ℕ) (parts more : List (List ℕ)) → 0 < length parts → onto_first x (parts ++ more) ≡ onto_first x parts ++ more
onto_first-append x [] more some = absurd (omega arith)
onto_first-append x (part ∷ parts) more some = refl

-- bytes with a ';' between them are cut there
pub slice_split-append : (xs : List ℕ) (y : ℕ) (ys : List ℕ) → is_semicolon y ≡ true
    → slice_split is_semicolon (xs ++ y ∷ ys) ≡ slice_split is_semicolon xs ++ slice_split is_semicolon ys
slice_split-append [] y ys here = slice_split-cons_yes is_semicolon y ys here
slice_split-append (x ∷ xs) y ys here =
    let rest = slice_split-append xs y ys here in
    ⊎_elim
    (λ passes. slice_split-cons_yes is_semicolon x (xs ++ y ∷ ys) passes ∙ ap (λ parts. [] ∷ parts) rest
    ∙ ap (λ parts. parts ++ slice_split is_semicolon ys) (sym (slice_split-cons_yes is_semicolon x xs passes)))
    (λ other. slice_split-cons_no is_semicolon x (xs ++ y ∷ ys) other ∙ ap (onto_first x) rest
    ∙ onto_first-append x (slice_split is_semicolon xs) (slice_split is_semicolon ys) (omega (arith, length-slice_split is_semicolon xs))
    ∙ ap (λ parts. parts ++ slice_split is_semicolon ys) (sym (slice_split-cons_no is_semicolon x xs other)))
    (cases_Bool (is_semicolon x))

cut_at : (bytes : List ℕ) (at : ℕ) → at < length bytes → bytes ≡ take at bytes ++ slice_index bytes at ∷ drop (suc at) bytes
cut_at [] at within = absurd (omega arith)
cut_at (b ∷ bytes) zero within = refl
cut_at (b ∷ bytes) (suc at) within = ap (λ rest. b ∷ rest) (cut_at bytes at (omega arith))

one_more : (n : ℕ) → suc n ≡ n + 1
one_more n = omega arith

-- a part ends at a ';'
pub IsEnd-at : (bytes : List ℕ) (at : ℕ) → at < length bytes → is_semicolon (slice_index bytes at) ≡ true → IsEnd bytes at
IsEnd-at bytes at within here =
    ap (slice_split is_semicolon) (cut_at bytes at within ∙ ap (λ k. take at bytes ++ slice_index bytes at ∷ drop k bytes) (one_more at)) ∙ slice_split-append (take at bytes) (slice_index bytes at) (drop (at + 1) bytes) here
    ∙ ap (λ parts. slice_split is_semicolon (take at bytes) ++ parts) (sym (cond-true (nat_lt at (length bytes)) _ _ (by_arith at (length bytes) within)))
  where
    by_arith : (n m : ℕ) → n < m → nat_lt n m ≡ true
    by_arith n m lt = grind arith

-- and at the end
pub IsEnd-length : (bytes : List ℕ) (at : ℕ) → length bytes ≤ at → IsEnd bytes at
IsEnd-length bytes at behind =
    ap (slice_split is_semicolon) (sym (take_all at bytes behind)) ∙ sym (append-nil (slice_split is_semicolon (take at bytes)))
    ∙ ap (λ parts. slice_split is_semicolon (take at bytes) ++ parts) (sym (cond-false (nat_lt at (length bytes)) _ _ (by_arith at (length bytes) behind)))
  where
    by_arith : (n m : ℕ) → m ≤ n → nat_lt n m ≡ false
    by_arith n m le = grind arith

take_none : (n : ℕ) → take {A = ℕ} n [] ≡ []
take_none zero = refl
take_none (suc n) = refl

take_from : (n m k : ℕ) (xs : List ℕ) → k ≡ n + m → take k xs ≡ take n xs ++ take m (drop n xs)
take_from zero m k xs e = let same : k ≡ m = omega arith in ap (λ j. take j xs) same
take_from (suc n) m zero xs e = absurd (omega arith)
take_from (suc n) m (suc k) [] e = sym (take_none m)
take_from (suc n) m (suc k) (x ∷ xs) e = ap (λ rest. x ∷ rest) (take_from n m k xs (omega arith))

-- bytes that are the same up to a place, and from there on for some more
pub same-more : (n m k : ℕ) (xs ys : List ℕ) → k ≡ n + m → take n xs ≡ take n ys → take m (drop n xs) ≡ take m (drop n ys) → take k xs ≡ take k ys
same-more n m k xs ys e front more = take_from n m k xs e ∙ (λ i. front i ++ more i) ∙ sym (take_from n m k ys e)

-- a ';' in what both begin with ends a part of each
pub IsSharedEnd-at : (last head : List ℕ) (len at : ℕ) → len ≤ length last → len ≤ length head → take len last ≡ take len head
    → at < length (take len last) → is_semicolon (slice_index (take len last) at) ≡ true → IsSharedEnd last head at
IsSharedEnd-at last head len at one other same within here =
    let below : at < len = omega (arith, length-take len last) in
    let in_last : slice_index (take len last) at ≡ slice_index last at = get_or-take len last at 0 below in
    let in_head : slice_index (take len last) at ≡ slice_index head at = ap (λ front. slice_index front at) same ∙ get_or-take len head at 0 below in
    record {
      last_within = omega arith;
      head_within = omega arith;
      same = sym (take-take at len last (omega arith)) ∙ ap (take at) same ∙ take-take at len head (omega arith);
      last_end = IsEnd-at last at (omega arith) (ap is_semicolon (sym in_last) ∙ here);
      head_end = IsEnd-at head at (omega arith) (ap is_semicolon (sym in_head) ∙ here);
    }
