-- Paths that begin with others, at frame numbers.
use Rattle.std.proofs.Common.{◌≡◌, ℕ, Bool, true, false, ◌&&◌, ◌||◌, List, [], ◌∷◌, ◌++◌, length, nat_eq, refl, sym, ap, ◌∙◌, arith, true≢false, eq-eqb}
use Rattle.std.specs.Cmp.Lexicographic.{pointwise}
use Rattle.std.proofs.lemmas.List.{length-append}
use borrow.Author.Tests.{eqb-true}
use Rattle.call_tree.specs.PathSums.{begins_with}

and_left : (a b : Bool) → (a && b) ≡ true → a ≡ true
and_left true b e = refl
and_left false b e = absurd (true≢false (sym e))

and_right : (a b : Bool) → (a && b) ≡ true → b ≡ true
and_right true b e = e
and_right false b e = absurd (true≢false (sym e))

and_false : (a b : Bool) → b ≡ false → (a && b) ≡ false
and_false true b e = e
and_false false b e = refl

shared : (a b c : Bool) → (a && (b || c)) ≡ ((a && b) || (a && c))
shared true b c = refl
shared false b c = refl

empty_path : (q : List ℕ) → begins_with nat_eq q [] ≡ pointwise nat_eq q []
empty_path [] = refl
empty_path (x ∷ q) = refl

-- a path that has one frame more begins with what it began with, and with itself
pub begins_with_push : (q front : List ℕ) (f : ℕ) → begins_with nat_eq q (front ++ f ∷ []) ≡ (begins_with nat_eq q front || pointwise nat_eq q (front ++ f ∷ []))
begins_with_push [] front f = refl
begins_with_push (x ∷ q) [] f = ap (λ b. nat_eq x f && b) (empty_path q)
begins_with_push (x ∷ q) (y ∷ front) f =
    ap (λ b. nat_eq x y && b) (begins_with_push q front f) ∙ shared (nat_eq x y) (begins_with nat_eq q front) (pointwise nat_eq q (front ++ f ∷ []))

-- no path begins with one that is longer
pub begins_with_longer : (front : List ℕ) (f : ℕ) → begins_with nat_eq (front ++ f ∷ []) front ≡ false
begins_with_longer [] f = refl
begins_with_longer (y ∷ front) f = and_false (nat_eq y y) _ (begins_with_longer front f)

pub begins_with_rest : (q path : List ℕ) → begins_with nat_eq q path ≡ true → (rest : List ℕ) × (path ≡ q ++ rest)
begins_with_rest [] path e = (path, refl)
begins_with_rest (x ∷ q) [] e = absurd (true≢false (sym e))
begins_with_rest (x ∷ q) (y ∷ path) e =
    let same : x ≡ y = eqb-true x y (and_left (nat_eq x y) (begins_with nat_eq q path) e) in
    let more = begins_with_rest q path (and_right (nat_eq x y) (begins_with nat_eq q path) e) in
    (more.0, λ i. sym same i ∷ more.1 i)

pub begins_with-append : (q rest : List ℕ) → begins_with nat_eq q (q ++ rest) ≡ true
begins_with-append [] rest = refl
begins_with-append (x ∷ q) rest = ap (λ b. b && begins_with nat_eq q (q ++ rest)) (eq-eqb x x refl) ∙ begins_with-append q rest

pub begins_with-itself : (q : List ℕ) → begins_with nat_eq q q ≡ true
begins_with-itself [] = refl
begins_with-itself (x ∷ q) = ap (λ b. b && begins_with nat_eq q q) (eq-eqb x x refl) ∙ begins_with-itself q

and_pointwise : (b c d : Bool) → (c ≡ false → d ≡ false) → (b && c) ≡ false → (b && d) ≡ false
and_pointwise true c d rest e = rest e
and_pointwise false c d rest e = refl

-- what is equal to a path begins it
pub begins_with-pointwise : (q path : List ℕ) → begins_with nat_eq q path ≡ false → pointwise nat_eq q path ≡ false
begins_with-pointwise [] path e = absurd (true≢false e)
begins_with-pointwise (x ∷ q) [] e = refl
begins_with-pointwise (x ∷ q) (y ∷ path) e = and_pointwise (nat_eq x y) (begins_with nat_eq q path) (pointwise nat_eq q path) (begins_with-pointwise q path) e

-- the last frames of two paths, and what stands before them
pub record SameEnds (xs ys : List ℕ) (x y : ℕ) : Type 0 where
  pub fronts : xs ≡ ys
  pub lasts : x ≡ y

not_push : (ys : List ℕ) (y : ℕ) → [] ≡ ys ++ y ∷ [] → ⊥
not_push ys y e = omega (arith, ap length e, length-append ys (y ∷ []))

pub same_ends : (xs ys : List ℕ) (x y : ℕ) → xs ++ x ∷ [] ≡ ys ++ y ∷ [] → SameEnds xs ys x y
same_ends [] [] x y e = record { fronts = refl; lasts = cc }
same_ends [] (b ∷ ys) x y e = let t : [] ≡ ys ++ y ∷ [] = cc in absurd (not_push ys y t)
same_ends (a ∷ xs) [] x y e = let t : xs ++ x ∷ [] ≡ [] = cc in absurd (not_push xs x (sym t))
same_ends (a ∷ xs) (b ∷ ys) x y e =
    let t : xs ++ x ∷ [] ≡ ys ++ y ∷ [] = cc in
    let h : a ≡ b = cc in
    let rest = same_ends xs ys x y t in
    record { fronts = λ i. h i ∷ rest.fronts i; lasts = rest.lasts }

pub no_push_empty : (ys : List ℕ) (y : ℕ) → [] ≡ ys ++ y ∷ [] → ⊥
no_push_empty = not_push
