-- the order of stacks
use Rattle.std.proofs.Common.{◌≡◌, ℕ, zero, suc, ◌<◌, List, [], ◌∷◌, true, false, length, take, sym, ◌∙◌, ap, subst, refl, arith, ◌⊎◌, inl, inr, ⊎_elim}
use Rattle.std.specs.declared.cmp.Ordering.{Ordering}
use Rattle.std.specs.declared.cmp.Ordering.TheVariants.{Less, Equal, Greater}
use Rattle.std.specs.Ordering.{nat_cmp, is_lt, ordering_then, ordering_reverse}
use Rattle.std.specs.Cmp.{IsTotalOrder}
use Rattle.std.specs.Cmp.Lexicographic.{slice_cmp}
use Rattle.std.specs.FinMap.{nat_cmp-IsAntisymmetric, slice_cmp-IsAntisymmetric}
use Rattle.std.proofs.lemmas.Cmp.{lists_total, nat_list_cmp_total}
use Rattle.merged_stacks.specs.Timeline.{Stack}
use Rattle.merged_stacks.specs.Order.{stack_cmp}
use Rattle.flame_layout.proofs.Shared.{IsAlike, head_of, tail_of}

pub stack_total : IsTotalOrder stack_cmp
stack_total = lists_total nat_list_cmp_total

name_same : (x y : List ℕ) → slice_cmp nat_cmp x y ≡ Equal → x ≡ y
name_same = slice_cmp-IsAntisymmetric nat_cmp-IsAntisymmetric

pub stack_same : (a b : Stack) → stack_cmp a b ≡ Equal → a ≡ b
stack_same = slice_cmp-IsAntisymmetric (slice_cmp-IsAntisymmetric nat_cmp-IsAntisymmetric)

abbrev pub Lt : Stack → Stack → Type 0
Lt a b = stack_cmp a b ≡ Less

abbrev pub Le : Stack → Stack → Type 0
Le a b = (a ≡ b) ⊎ Lt a b

pub irreflexive : {K : Type 0} (R : K → K → Ordering) → IsTotalOrder R → (x : K) → R x x ≡ Less → ⊥
irreflexive R t x e = let flip : Less ≡ Greater = sym e ∙ (t.antisymm x x ∙ ap ordering_reverse e) in cc

pub Lt-irrefl : (a : Stack) → Lt a a → ⊥
Lt-irrefl a = irreflexive stack_cmp stack_total a

pub Lt-trans : (a b c : Stack) → Lt a b → Lt b c → Lt a c
Lt-trans a b c = stack_total.trans a b c

pub Le-Lt : (a b c : Stack) → Le a b → Lt b c → Lt a c
Le-Lt a b c h g = ⊎_elim (λ e. subst (λ x. Lt x c) (sym e) g) (λ l. Lt-trans a b c l g) h

pub Lt-Le : (a b c : Stack) → Lt a b → Le b c → Lt a c
Lt-Le a b c h g = ⊎_elim (λ e. subst (λ x. Lt a x) e h) (λ l. Lt-trans a b c h l) g

pub Le-trans : (a b c : Stack) → Le a b → Le b c → Le a c
Le-trans a b c h g = ⊎_elim (λ e. subst (λ x. Le x c) (sym e) g) (λ l. inr (Lt-Le a b c l g)) h

-- one is below, the same or above
pub compared : (a b : Stack) → Lt a b ⊎ ((a ≡ b) ⊎ Lt b a)
compared a b = by (stack_cmp a b) refl
  where
    by : (o : Ordering) → stack_cmp a b ≡ o → Lt a b ⊎ ((a ≡ b) ⊎ Lt b a)
    by Less e = inl e
    by Equal e = inr (inl (stack_same a b e))
    by Greater e = inr (inr (stack_total.antisymm b a ∙ ap ordering_reverse e))

-- not below: the same or above
pub not_below : (a b : Stack) → is_lt (stack_cmp a b) ≡ false → Le b a
not_below a b e = ⊎_elim (λ l. absurd (both (ap is_lt l))) (λ h. ⊎_elim (λ s. inl (sym s)) (λ l. inr l) h) (compared a b)
  where
    both : is_lt (stack_cmp a b) ≡ true → ⊥
    both h = cc

pub below : (a b : Stack) → is_lt (stack_cmp a b) ≡ true → Lt a b
below a b e = by (stack_cmp a b) refl
  where
    by : (o : Ordering) → stack_cmp a b ≡ o → Lt a b
    by Less h = h
    by Equal h = absurd (let f : false ≡ true = sym (ap is_lt h) ∙ e in cc)
    by Greater h = absurd (let f : false ≡ true = sym (ap is_lt h) ∙ e in cc)

-- ---- by the first name

abbrev NameLt : List ℕ → List ℕ → Type 0
NameLt x y = slice_cmp nat_cmp x y ≡ Less

Lt-cons : (x y : List ℕ) (a b : Stack) → Lt (x ∷ a) (y ∷ b) → NameLt x y ⊎ ((x ≡ y) × Lt a b)
Lt-cons x y a b h = by (slice_cmp nat_cmp x y) refl
  where
    by : (o : Ordering) → slice_cmp nat_cmp x y ≡ o → NameLt x y ⊎ ((x ≡ y) × Lt a b)
    by Less e = inl e
    by Equal e = inr (name_same x y e, sym (ap (λ o. ordering_then o (stack_cmp a b)) e) ∙ h)
    by Greater e = absurd (let f : Greater ≡ Less = sym (ap (λ o. ordering_then o (stack_cmp a b)) e) ∙ h in cc)

Le-cons : (x y : List ℕ) (a b : Stack) → Le (x ∷ a) (y ∷ b) → NameLt x y ⊎ ((x ≡ y) × Le a b)
Le-cons x y a b h = ⊎_elim (λ e. inr (ap (head_of x) e, inl (ap tail_of e))) (λ l. ⊎_elim (λ n. inl n) (λ r. inr (r.0, inr r.1)) (Lt-cons x y a b l)) h

Le-nil : (x : List ℕ) (a : Stack) → Le (x ∷ a) [] → ⊥
Le-nil x a h = ⊎_elim (λ e. cc) (λ l. cc) h

NameLt-irrefl : (x : List ℕ) → NameLt x x → ⊥
NameLt-irrefl x = irreflexive (slice_cmp nat_cmp) nat_list_cmp_total x

NameLt-trans : (x y z : List ℕ) → NameLt x y → NameLt y z → NameLt x z
NameLt-trans x y z = nat_list_cmp_total.trans x y z

-- what lies between two stacks that begin alike begins like them
pub between_alike : (d : ℕ) (a b c : Stack) → Le a b → Le b c → IsAlike d a c → IsAlike d a b
between_alike zero a b c h g s = record { left = omega arith; right = omega arith; same = refl }
between_alike (suc d) [] b c h g s = absurd (omega (arith, s.left))
between_alike (suc d) (x ∷ a) b [] h g s = absurd (omega (arith, s.right))
between_alike (suc d) (x ∷ a) [] (z ∷ c) h g s = absurd (Le-nil x a h)
between_alike (suc d) (x ∷ a) (y ∷ b) (z ∷ c) h g s =
    ⊎_elim (λ xy. absurd (⊎_elim (λ yz. NameLt-irrefl x (NameLt-trans x y x xy (subst (λ n. NameLt y n) (sym first) yz))) (λ r. NameLt-irrefl x (subst (λ n. NameLt x n) (r.0 ∙ sym first) xy)) (Le-cons y z b c g)))
    (λ l. ⊎_elim (λ yz. absurd (NameLt-irrefl y (subst (λ n. NameLt y n) (sym first ∙ l.0) yz)))
    (λ r. joined l.0 (between_alike d a b c l.1 r.1 tails)) (Le-cons y z b c g))
    (Le-cons x y a b h)
  where
    first : x ≡ z
    first = ap (head_of x) s.same

    tails : IsAlike d a c
    tails = record { left = omega (arith, s.left); right = omega (arith, s.right); same = ap tail_of s.same }

    joined : x ≡ y → IsAlike d a b → IsAlike (suc d) (x ∷ a) (y ∷ b)
    joined e t = record { left = omega (arith, t.left); right = omega (arith, t.right); same = λ i. e i ∷ t.same i }

Lt-cons_same : (x : List ℕ) (a b : Stack) → Lt a b → Lt (x ∷ a) (x ∷ b)
Lt-cons_same x a b h = ap (λ o. ordering_then o (stack_cmp a b)) (equal (slice_cmp nat_cmp x x) refl) ∙ h
  where
    equal : (o : Ordering) → slice_cmp nat_cmp x x ≡ o → slice_cmp nat_cmp x x ≡ Equal
    equal Less e = absurd (NameLt-irrefl x e)
    equal Equal e = e
    equal Greater e = absurd (NameLt-irrefl x (nat_list_cmp_total.antisymm x x ∙ ap ordering_reverse e))

-- a front is not above its stack, and below it where it is shorter
pub front_below : (d : ℕ) (a : Stack) → d < length a → Lt (take d a) a
front_below d [] h = absurd (omega arith)
front_below zero (x ∷ a) h = refl
front_below (suc d) (x ∷ a) h = Lt-cons_same x (take d a) a (front_below d a (omega arith))

pub front_Le : (d : ℕ) (a : Stack) → Le (take d a) a
front_Le zero [] = inl refl
front_Le zero (x ∷ a) = inr refl
front_Le (suc d) [] = inl refl
front_Le (suc d) (x ∷ a) = ⊎_elim (λ e. inl (λ i. x ∷ e i)) (λ l. inr (Lt-cons_same x (take d a) a l)) (front_Le d a)
