-- with how many names two stacks begin alike, as equal prefixes
use Rattle.std.proofs.Common.{◌≡◌, ℕ, zero, suc, ◌+◌, ◌≤◌, List, [], ◌∷◌, Bool, true, false, cond, length, take, sym, ◌∙◌, ap, refl, arith, leb, Decides}
use Rattle.std.specs.Str.{bytes_eq}
use Rattle.std.proofs.lemmas.Slice.Eq.{bytes_eq-Decides}
use Rattle.std.proofs.lemmas.Bool.Decides.{same_from_decides}
use Rattle.std.proofs.lemmas.Bool.{leb-true, le-leb}
use Rattle.merged_stacks.specs.Timeline.{Stack}
use Rattle.flame_layout.specs.Chart.{names_shared}

-- both have that many names, and the same
pub record IsAlike (depth : ℕ) (a b : Stack) : Type 0 where
  pub left : depth ≤ length a
  pub right : depth ≤ length b
  pub same : take depth a ≡ take depth b

alike_cons : (d : ℕ) (x y : List ℕ) (xs ys : Stack) → x ≡ y → IsAlike d xs ys → IsAlike (suc d) (x ∷ xs) (y ∷ ys)
alike_cons d x y xs ys e h = record { left = omega (arith, h.left); right = omega (arith, h.right); same = λ i. e i ∷ h.same i }

alike_step : (d : ℕ) (x y : List ℕ) (xs ys : Stack) (b : Bool) → (b ≡ true → x ≡ y) → ((e : ℕ) → e ≤ names_shared xs ys → IsAlike e xs ys) → d ≤ cond b (1 + names_shared xs ys) 0 → IsAlike d (x ∷ xs) (y ∷ ys)
alike_step zero x y xs ys b same ih h = record { left = omega arith; right = omega arith; same = refl }
alike_step (suc d) x y xs ys true same ih h = alike_cons d x y xs ys (same refl) (ih d (omega arith))
alike_step (suc d) x y xs ys false same ih h = absurd (omega arith)

pub alike_from_shared : (a b : Stack) (d : ℕ) → d ≤ names_shared a b → IsAlike d a b
alike_from_shared [] b zero h = record { left = omega arith; right = omega arith; same = refl }
alike_from_shared [] b (suc d) h = absurd (omega arith)
alike_from_shared (x ∷ xs) [] zero h = record { left = omega arith; right = omega arith; same = refl }
alike_from_shared (x ∷ xs) [] (suc d) h = absurd (omega arith)
alike_from_shared (x ∷ xs) (y ∷ ys) d h = alike_step d x y xs ys (bytes_eq x y) ((bytes_eq-Decides x y).0) (alike_from_shared xs ys) h

abbrev pub head_of : {A : Type 0} → A → List A → A
head_of d [] = d
head_of d (x ∷ xs) = x

abbrev pub tail_of : {A : Type 0} → List A → List A
tail_of [] = []
tail_of (x ∷ xs) = xs

shared_step : (d : ℕ) (x y : List ℕ) (xs ys : Stack) (b : Bool) → (x ≡ y → b ≡ true) → d ≤ names_shared xs ys → x ≡ y → suc d ≤ cond b (1 + names_shared xs ys) 0
shared_step d x y xs ys true same ih e = omega arith
shared_step d x y xs ys false same ih e = cc (same e)

pub shared_from_alike : (a b : Stack) (d : ℕ) → IsAlike d a b → d ≤ names_shared a b
shared_from_alike a b zero h = omega arith
shared_from_alike [] b (suc d) h = absurd (omega (arith, h.left))
shared_from_alike (x ∷ xs) [] (suc d) h = absurd (omega (arith, h.right))
shared_from_alike (x ∷ xs) (y ∷ ys) (suc d) h =
    let below : IsAlike d xs ys = record { left = omega (arith, h.left); right = omega (arith, h.right); same = ap tail_of h.same } in
    shared_step d x y xs ys (bytes_eq x y) ((bytes_eq-Decides x y).1) (shared_from_alike xs ys d below) (ap (head_of x) h.same)

pub Decides-alike : (a b : Stack) (d : ℕ) → Decides (leb d (names_shared a b)) (IsAlike d a b)
Decides-alike a b d = ((λ e. alike_from_shared a b d (leb-true d (names_shared a b) e)), (λ h. le-leb d (names_shared a b) (shared_from_alike a b d h)))

pub IsAlike-sym : {d : ℕ} {a b : Stack} → IsAlike d a b → IsAlike d b a
IsAlike-sym h = record { left = h.right; right = h.left; same = sym h.same }

pub IsAlike-trans : {d : ℕ} {a b c : Stack} → IsAlike d a b → IsAlike d b c → IsAlike d a c
IsAlike-trans h g = record { left = h.left; right = g.right; same = h.same ∙ g.same }

pub IsAlike-refl : (d : ℕ) (a : Stack) → d ≤ length a → IsAlike d a a
IsAlike-refl d a h = record { left = h; right = h; same = refl }

-- two stacks that begin alike begin alike with the same third ones
pub same_test : (a b t : Stack) (d : ℕ) → IsAlike d a b → leb d (names_shared a t) ≡ leb d (names_shared b t)
same_test a b t d h =
    same_from_decides _ _ (Decides-alike a t d)
    ((λ e. IsAlike-trans h ((Decides-alike b t d).0 e)), (λ g. (Decides-alike b t d).1 (IsAlike-trans (IsAlike-sym h) g)))
