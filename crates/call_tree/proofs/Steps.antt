-- Facts that hold step by step: of one element more, and of all pairs that neighbours lead to.
use Rattle.std.proofs.Common.{◌≡◌, ℕ, ◌+◌, ◌<◌, ◌⊎◌, inl, inr, List, [], ◌∷◌, ◌++◌, length, get_or, refl, sym, subst, arith, suc, zero}
use Rattle.std.proofs.lemmas.List.{length-append, get_or_append_left}
use Rattle.std.proofs.Math.Seq.{get_or-append_seam}

pub zero_or_more : (n : ℕ) → (n ≡ 0) ⊎ ((m : ℕ) × (n ≡ m + 1))
zero_or_more zero = inl refl
zero_or_more (suc m) = inr (m, omega arith)

pub last_or_before : (i n : ℕ) → i < n + 1 → (i ≡ n) ⊎ (i < n)
last_or_before i n lt = grind arith

-- what holds of each place and its element holds with one element more
pub pushed : {A : Type 0} (P : ℕ → A → Type 0) (xs : List A) (x : A) → ((i : ℕ) (d : A) → i < length xs → P i (get_or xs i d)) → P (length xs) x
    → (i : ℕ) (d : A) → i < length (xs ++ x ∷ []) → P i (get_or (xs ++ x ∷ []) i d)
pushed P xs x before last i d lt = elim (last_or_before i (length xs) (omega (arith, length-append xs (x ∷ [])))) [
  | inl e ↦ subst (λ n. P n (get_or (xs ++ x ∷ []) n d)) (sym e) (subst (P (length xs)) (sym (get_or-append_seam xs x [] d)) last)
  | inr less ↦ subst (P i) (sym (get_or_append_left xs (x ∷ []) d i less)) (before i d less)
]

-- what leads from each place to the next leads to each later one
pub far : {A : Type 0} (R : A → A → Type 0) → ((a b c : A) → R a b → R b c → R a c) → (f : ℕ → A) (n : ℕ) → ((k : ℕ) → k + 1 < n → R (f k) (f (k + 1))) → (i j : ℕ) → i < j → j < n → R (f i) (f j)
far R trans f n next i zero lt ln = absurd (omega arith)
far R trans f n next i (suc j) lt ln = elim (last_or_before i j (omega arith)) [
  | inl e ↦ subst (λ k. R (f k) (f (suc j))) (sym e) last
  | inr less ↦ trans (f i) (f j) (f (suc j)) (far R trans f n next i j less (omega arith)) last
]
  where
    last : R (f j) (f (suc j))
    last = let up : j + 1 ≡ suc j = omega arith in subst (λ k. R (f j) (f k)) up (next j (omega arith))
