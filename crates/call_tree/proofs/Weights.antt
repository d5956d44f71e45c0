-- Sums over the nodes whose path passes a test.
use Rattle.std.proofs.Common.{◌≡◌, ℕ, ◌+◌, ◌<◌, ◌≤◌, Bool, true, false, List, [], ◌∷◌, ◌++◌, length, get_or, set, refl, ap, ◌∙◌, arith, suc, zero, if◌then◌else◌}
use Rattle.std.specs.List.{sum_by, zip}
use Rattle.std.proofs.lemmas.List.Sums.{sum_by-cons, sum_by_push}

-- the weight of a sample whose path passes
abbrev pub weight_where : (List ℕ → Bool) → List ℕ × ℕ → ℕ
weight_where test s = if test s.0 then s.1 else 0

pub not_true : (b : Bool) → (b ≡ true → ⊥) → b ≡ false
not_true true h = absurd (h refl)
not_true false h = refl

pub zip_push : (ps : List (List ℕ)) (os : List ℕ) (p : List ℕ) (o : ℕ) → length ps ≡ length os → zip (ps ++ p ∷ []) (os ++ o ∷ []) ≡ zip ps os ++ (p, o) ∷ []
zip_push [] [] p o e = refl
zip_push [] (y ∷ os) p o e = absurd (omega arith)
zip_push (x ∷ ps) [] p o e = absurd (omega arith)
zip_push (x ∷ ps) (y ∷ os) p o e = ap (λ r. (x, y) ∷ r) (zip_push ps os p o (omega arith))

module _ (test : List ℕ → Bool) where
  pub sum_none : (ps : List (List ℕ)) (os : List ℕ) → ((k : ℕ) → k < length ps → test (get_or ps k []) ≡ false) → sum_by (weight_where test) (zip ps os) ≡ 0
  sum_none [] os none = refl
  sum_none (p ∷ ps) [] none = refl
  sum_none (p ∷ ps) (o ∷ os) none =
      sum_by-cons (weight_where test) (p, o) (zip ps os)
      ∙ ap (λ b. (if b then o else 0) + sum_by (weight_where test) (zip ps os)) (none 0 (omega arith))
      ∙ omega (arith, sum_none ps os (λ k lt. none (suc k) (omega arith)))

  pub sum_one : (ps : List (List ℕ)) (os : List ℕ) (i : ℕ) → length ps ≡ length os → i < length ps → test (get_or ps i []) ≡ true
      → ((k : ℕ) → k < length ps → test (get_or ps k []) ≡ true → k ≡ i) → sum_by (weight_where test) (zip ps os) ≡ get_or os i 0
  sum_one [] os i e lt here only = absurd (omega arith)
  sum_one (p ∷ ps) [] i e lt here only = absurd (omega arith)
  sum_one (p ∷ ps) (o ∷ os) zero e lt here only =
      let rest : sum_by (weight_where test) (zip ps os) ≡ 0 =
      sum_none ps os (λ k lt'. not_true (test (get_or ps k [])) (λ t. let z : suc k ≡ 0 = only (suc k) (omega arith) t in omega arith)) in
      sum_by-cons (weight_where test) (p, o) (zip ps os)
      ∙ ap (λ b. (if b then o else 0) + sum_by (weight_where test) (zip ps os)) here ∙ omega arith
  sum_one (p ∷ ps) (o ∷ os) (suc i) e lt here only =
      let head : test p ≡ false = not_true (test p) (λ t. let z : 0 ≡ suc i = only 0 (omega arith) t in omega arith) in
      let rest : sum_by (weight_where test) (zip ps os) ≡ get_or os i 0 =
      sum_one ps os i (omega arith) (omega arith) here (λ k lt' t. let z : suc k ≡ suc i = only (suc k) (omega arith) t in omega arith) in
      sum_by-cons (weight_where test) (p, o) (zip ps os)
      ∙ ap (λ b. (if b then o else 0) + sum_by (weight_where test) (zip ps os)) head ∙ omega arith

  pub sum_some : (ps : List (List ℕ)) (os : List ℕ) → 0 < sum_by (weight_where test) (zip ps os) → (k : ℕ) × (k < length ps) × (test (get_or ps k []) ≡ true)
  sum_some [] os pos = absurd (omega arith)
  sum_some (p ∷ ps) [] pos = absurd (omega arith)
  sum_some (p ∷ ps) (o ∷ os) pos = by (test p) refl (sum_by-cons (weight_where test) (p, o) (zip ps os)) (sum_some ps os)
    where
      by : (b : Bool) → test p ≡ b → sum_by (weight_where test) ((p, o) ∷ zip ps os) ≡ (if b then o else 0) + sum_by (weight_where test) (zip ps os)
          → (0 < sum_by (weight_where test) (zip ps os) → (k : ℕ) × (k < length ps) × (test (get_or ps k []) ≡ true))
          → (k : ℕ) × (k < length (p ∷ ps)) × (test (get_or (p ∷ ps) k []) ≡ true)
      by true e sum rest = (0, omega arith, e)
      by false e sum rest = let r = rest (omega arith) in (suc r.0, omega arith, r.2)

  split_weight : (b : Bool) (v w : ℕ) → (if b then v + w else 0) ≡ (if b then v else 0) + (if b then w else 0)
  split_weight true v w = refl
  split_weight false v w = refl

  pub sum_set : (ps : List (List ℕ)) (os : List ℕ) (n w : ℕ) → length ps ≡ length os → n < length os
      → sum_by (weight_where test) (zip ps (set os n (get_or os n 0 + w))) ≡ sum_by (weight_where test) (zip ps os) + (if test (get_or ps n []) then w else 0)
  sum_set [] [] n w e lt = absurd (omega arith)
  sum_set [] (o ∷ os) n w e lt = absurd (omega arith)
  sum_set (p ∷ ps) [] n w e lt = absurd (omega arith)
  sum_set (p ∷ ps) (o ∷ os) zero w e lt =
      sum_by-cons (weight_where test) (p, o + w) (zip ps os)
      ∙ ap (λ n. n + sum_by (weight_where test) (zip ps os)) (split_weight (test p) o w)
      ∙ omega (arith, sum_by-cons (weight_where test) (p, o) (zip ps os))
  sum_set (p ∷ ps) (o ∷ os) (suc n) w e lt =
      omega (arith, sum_by-cons (weight_where test) (p, o) (zip ps (set os n (get_or os n 0 + w))), sum_by-cons (weight_where test) (p, o) (zip ps os), sum_set ps os n w (omega arith) (omega arith))

  -- a new node without weight adds nothing
  pub sum_push : (ps : List (List ℕ)) (os : List ℕ) (p : List ℕ) → length ps ≡ length os → sum_by (weight_where test) (zip (ps ++ p ∷ []) (os ++ 0 ∷ [])) ≡ sum_by (weight_where test) (zip ps os)
  sum_push ps os p e =
      ap (sum_by (weight_where test)) (zip_push ps os p 0 e) ∙ sum_by_push (weight_where test) (zip ps os) (p, 0)
      ∙ by (test p)
    where
      by : (b : Bool) → sum_by (weight_where test) (zip ps os) + (if b then 0 else 0) ≡ sum_by (weight_where test) (zip ps os)
      by true = omega arith
      by false = omega arith

-- a test that passes more gives no smaller sum
pub sum_where_le : (test : List ℕ → Bool) (es : List (List ℕ × ℕ)) → sum_by (weight_where test) es ≤ sum_by (weight_where (λ _. true)) es
sum_where_le test [] = omega arith
sum_where_le test (e ∷ es) = by (test e.0) (sum_by-cons (weight_where test) e es) (sum_where_le test es)
  where
    by : (b : Bool) → sum_by (weight_where test) (e ∷ es) ≡ (if b then e.1 else 0) + sum_by (weight_where test) es
        → sum_by (weight_where test) es ≤ sum_by (weight_where (λ _. true)) es
        → sum_by (weight_where test) (e ∷ es) ≤ sum_by (weight_where (λ _. true)) (e ∷ es)
    by true sum rest = omega (arith, sum_by-cons (weight_where (λ _. true)) e es)
    by false sum rest = omega (arith, sum_by-cons (weight_where (λ _. true)) e es)
