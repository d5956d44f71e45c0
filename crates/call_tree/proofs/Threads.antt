-- A list of numbers through which another list leads, from each to the next one, and what it is with one number more.
use Rattle.std.proofs.Common.{◌≡◌, ℕ, ◌+◌, ◌<◌, ◌≢◌, ◌⊎◌, inl, inr, List, [], ◌∷◌, ◌++◌, length, get_or, set, refl, sym, ap, subst, ◌∙◌, arith, suc, zero}
use Rattle.std.proofs.lemmas.List.{length-append, get_or-set_same, get_or-set_other, length-set}

-- n is one of the numbers
abbrev pub IsIn : ℕ → List ℕ → Type 0
IsIn n [] = ⊥
IsIn n (x ∷ xs) = (n ≡ x) ⊎ IsIn n xs

-- R holds of x and the first of the list, and of each and the next
abbrev pub Chained : {A : Type 0} → (A → A → Type 0) → A → List A → Type 0
Chained R x [] = Unit {0}
Chained R x (y ∷ rest) = R x y × Chained R y rest

pub in_contains : (n d : ℕ) (xs : List ℕ) → IsIn n xs → (i : ℕ) × (i < length xs) × (get_or xs i d ≡ n)
in_contains n d [] has = absurd has
in_contains n d (x ∷ xs) (inl e) = (0, omega arith, sym e)
in_contains n d (x ∷ xs) (inr has) = let there = in_contains n d xs has in (suc there.0, omega (arith, there.1), there.2)

pub contains_in : (n d : ℕ) (xs : List ℕ) (i : ℕ) → i < length xs → get_or xs i d ≡ n → IsIn n xs
contains_in n d [] i lt e = absurd (omega arith)
contains_in n d (x ∷ xs) zero lt e = inl (sym e)
contains_in n d (x ∷ xs) (suc i) lt e = inr (contains_in n d xs i (omega arith) e)

-- the numbers before and after one of them
pub record Parted (p : ℕ) (xs : List ℕ) : Type 0 where
  pub front : List ℕ
  pub back : List ℕ
  pub is : xs ≡ front ++ p ∷ back

pub parted : (p : ℕ) (xs : List ℕ) → IsIn p xs → Parted p xs
parted p [] has = absurd has
parted p (x ∷ xs) (inl e) = record { front = []; back = xs; is = ap (λ y. y ∷ xs) (sym e) }
parted p (x ∷ xs) (inr has) = let rest = parted p xs has in record { front = x ∷ rest.front; back = rest.back; is = ap (λ ys. x ∷ ys) rest.is }

pub in_front : (a p : ℕ) (front back : List ℕ) → IsIn a front → IsIn a (front ++ p ∷ back)
in_front a p [] back has = absurd has
in_front a p (x ∷ front) back (inl e) = inl e
in_front a p (x ∷ front) back (inr has) = inr (in_front a p front back has)

in_middle : (p : ℕ) (front back : List ℕ) → IsIn p (front ++ p ∷ back)
in_middle p [] back = inl refl
in_middle p (x ∷ front) back = inr (in_middle p front back)

pub in_back : (a p : ℕ) (front back : List ℕ) → IsIn a back → IsIn a (front ++ p ∷ back)
in_back a p [] back has = inr has
in_back a p (x ∷ front) back has = inr (in_back a p front back has)

-- c is new after p
pub old_or_new : (a p c : ℕ) (front back : List ℕ) → IsIn a (front ++ p ∷ c ∷ back) → (a ≡ c) ⊎ IsIn a (front ++ p ∷ back)
old_or_new a p c [] back (inl e) = inr (inl e)
old_or_new a p c [] back (inr (inl e)) = inl e
old_or_new a p c [] back (inr (inr has)) = inr (inr has)
old_or_new a p c (x ∷ front) back (inl e) = inr (inl e)
old_or_new a p c (x ∷ front) back (inr has) = elim (old_or_new a p c front back has) [ inl e ↦ inl e | inr old ↦ inr (inr old) ]

pub still_in : (a p c : ℕ) (front back : List ℕ) → IsIn a (front ++ p ∷ back) → IsIn a (front ++ p ∷ c ∷ back)
still_in a p c [] back (inl e) = inl e
still_in a p c [] back (inr has) = inr (inr has)
still_in a p c (x ∷ front) back (inl e) = inl e
still_in a p c (x ∷ front) back (inr has) = inr (still_in a p c front back has)

pub new_in : (p c : ℕ) (front back : List ℕ) → IsIn c (front ++ p ∷ c ∷ back)
new_in p c [] back = inr (inl refl)
new_in p c (x ∷ front) back = inr (new_in p c front back)

pub length_inserted : (p c : ℕ) (front back : List ℕ) → length (front ++ p ∷ c ∷ back) ≡ length (front ++ p ∷ back) + 1
length_inserted p c front back = omega (arith, length-append front (p ∷ c ∷ back), length-append front (p ∷ back))

-- R of each number and the next, by indices
pub chained_at : (R : ℕ → ℕ → Type 0) (x : ℕ) (rest : List ℕ) → Chained R x rest → (i : ℕ) → i + 1 < length (x ∷ rest) → R (get_or (x ∷ rest) i 0) (get_or (x ∷ rest) (i + 1) 0)
chained_at R x [] c i lt = absurd (omega arith)
chained_at R x (y ∷ rest) c zero lt = c.0
chained_at R x (y ∷ rest) c (suc i) lt =
    let up : suc (i + 1) ≡ suc i + 1 = omega arith in
    subst (λ k. R (get_or (y ∷ rest) i 0) (get_or (x ∷ y ∷ rest) k 0)) up (chained_at R y rest c.1 i (omega arith))

chained_same : (R S : ℕ → ℕ → Type 0) (x : ℕ) (rest : List ℕ) → ((a b : ℕ) → IsIn a (x ∷ rest) → R a b → S a b) → Chained R x rest → Chained S x rest
chained_same R S x [] same c = tt
chained_same R S x (y ∷ rest) same c = (same x y (inl refl) c.0, chained_same R S y rest (λ a b has. same a b (inr has)) c.1)

-- a chain of R into which c comes after p is one of S, where S holds before c and after it, and elsewhere where R does
chained_after : (R S : ℕ → ℕ → Type 0) (p c : ℕ) (back : List ℕ) → S p c → ((y : ℕ) → IsIn y back → R p y → S c y) → ((a b : ℕ) → IsIn a back → R a b → S a b) → Chained R p back → Chained S p (c ∷ back)
chained_after R S p c [] to from same ch = (to, tt)
chained_after R S p c (y ∷ back) to from same ch = (to, (from y (inl refl) ch.0, chained_same R S y back same ch.1))

chained_within : (R S : ℕ → ℕ → Type 0) (x p c : ℕ) (front back : List ℕ) → S p c → ((y : ℕ) → IsIn y back → R p y → S c y) → ((a b : ℕ) → IsIn a (x ∷ front) → R a b → S a b)
    → ((a b : ℕ) → IsIn a back → R a b → S a b) → Chained R x (front ++ p ∷ back) → Chained S x (front ++ p ∷ c ∷ back)
chained_within R S x p c [] back to from before after ch = (before x p (inl refl) ch.0, chained_after R S p c back to from after ch.1)
chained_within R S x p c (y ∷ front) back to from before after ch =
    (before x y (inl refl) ch.0, chained_within R S y p c front back to from (λ a b has. before a b (inr has)) after ch.1)

module _ (R : ℕ → ℕ → Type 0) (trans : (a b c : ℕ) → R a b → R b c → R a c) where
  -- in a chain of a relation that goes on, it holds of the first and each
  pub first_to : (x : ℕ) (rest : List ℕ) (a : ℕ) → Chained R x rest → IsIn a rest → R x a
  first_to x [] a ch has = absurd has
  first_to x (y ∷ rest) a ch (inl e) = subst (R x) (sym e) ch.0
  first_to x (y ∷ rest) a ch (inr has) = trans x y a ch.0 (first_to y rest a ch.1 has)

  to_middle : (x p : ℕ) (front back : List ℕ) (a : ℕ) → Chained R x (front ++ p ∷ back) → IsIn a (x ∷ front) → R a p
  to_middle x p front back a ch (inl e) = subst (λ n. R n p) (sym e) (first_to x (front ++ p ∷ back) p ch (in_middle p front back))
  to_middle x p [] back a ch (inr has) = absurd has
  to_middle x p (y ∷ front) back a ch (inr has) = to_middle y p front back a ch.1 has

  from_middle : (x p : ℕ) (front back : List ℕ) (a : ℕ) → Chained R x (front ++ p ∷ back) → IsIn a back → R p a
  from_middle x p [] back a ch has = first_to p back a ch.1 has
  from_middle x p (y ∷ front) back a ch has = from_middle y p front back a ch.1 has

-- what leads on from each number
abbrev pub Leads : List ℕ → ℕ → ℕ → Type 0
Leads next a b = get_or next a 0 ≡ b

-- the list after c was put behind p
abbrev pub led_through : List ℕ → ℕ → ℕ → List ℕ
led_through next p c = set (set next c (get_or next p 0)) p c

module _ (next : List ℕ) (p c : ℕ) (lp : p < length next) (lc : c < length next) (other : c ≢ p) where
  leads_to : Leads (led_through next p c) p c
  leads_to = get_or-set_same (set next c (get_or next p 0)) p c 0 (omega (arith, length-set {A = ℕ}))

  leads_from : Leads (led_through next p c) c (get_or next p 0)
  leads_from = get_or-set_other (set next c (get_or next p 0)) p c c 0 other ∙ get_or-set_same next c (get_or next p 0) 0 lc

  leads_still : (a b : ℕ) → a ≢ p → a ≢ c → Leads next a b → Leads (led_through next p c) a b
  leads_still a b np nc e = get_or-set_other (set next c (get_or next p 0)) p a c 0 np ∙ get_or-set_other next c a (get_or next p 0) 0 nc ∙ e

  module _ (R : ℕ → ℕ → Type 0) (trans : (a b c : ℕ) → R a b → R b c → R a c) (strict : (a : ℕ) → R a a → ⊥) where
    pub leads_after : (back : List ℕ) → (IsIn c back → ⊥) → Chained R p back → Chained (Leads next) p back → Chained (Leads (led_through next p c)) p (c ∷ back)
    leads_after back fresh up ch =
        chained_after (Leads next) (Leads (led_through next p c)) p c back leads_to
        (λ y has e. leads_from ∙ e)
        (λ a b has. leads_still a b (λ e. strict p (subst (R p) e (first_to R trans p back a up has))) (λ e. fresh (subst (λ n. IsIn n back) e has)))
        ch

    pub leads_within : (x : ℕ) (front back : List ℕ) → c ≢ x → (IsIn c (front ++ p ∷ back) → ⊥) → Chained R x (front ++ p ∷ back) → Chained (Leads next) x (front ++ p ∷ back)
        → Chained (Leads (led_through next p c)) x (front ++ p ∷ c ∷ back)
    leads_within x front back not_first fresh up ch =
        chained_within (Leads next) (Leads (led_through next p c)) x p c front back leads_to
        (λ y has e. leads_from ∙ e)
        (λ a b has. leads_still a b (λ e. strict p (subst (λ n. R n p) e (to_middle R trans x p front back a up has))) (λ e. elim has [
          | inl first ↦ not_first (sym e ∙ first)
          | inr inside ↦ fresh (in_front c p front back (subst (λ n. IsIn n front) e inside))
        ]))
        (λ a b has. leads_still a b (λ e. strict p (subst (R p) e (from_middle R trans x p front back a up has))) (λ e. fresh (in_back c p front back (subst (λ n. IsIn n back) e has))))
        ch

module _ (R : ℕ → ℕ → Type 0) (p c : ℕ) (to : R p c) where
  -- a rising chain rises still, where c is below what p was below
  pub rises_after : (back : List ℕ) → ((y : ℕ) → IsIn y back → R p y → R c y) → Chained R p back → Chained R p (c ∷ back)
  rises_after back from ch = chained_after R R p c back to from (λ a b has e. e) ch

  pub rises_within : (x : ℕ) (front back : List ℕ) → ((y : ℕ) → IsIn y (front ++ p ∷ back) → R p y → R c y) → Chained R x (front ++ p ∷ back) → Chained R x (front ++ p ∷ c ∷ back)
  rises_within x front back from ch =
      chained_within R R x p c front back to (λ y has. from y (in_back y p front back has)) (λ a b has e. e) (λ a b has e. e) ch
