-- there is one table of what is told of names: what is told of those with weight, put in order
use Rattle.std.proofs.Common.{◌≡◌, ◌⊎◌, inl, inr, ⊎_elim, ℕ, zero, suc, ◌<◌, List, [], ◌∷◌, get_or, map, All, Contains, refl, sym, ap, subst, ◌∙◌, arith, true≢false}
use Rattle.std.specs.BTreeSet.{insert_key}
use Rattle.std.specs.List.{AllByRecursion}
use Rattle.std.specs.List.Sorted.{IsStrictlySortedBy}
use Rattle.std.specs.Cmp.{IsTotalOrder}
use Rattle.std.specs.Ordering.{is_lt, match_ordering, ordering_reverse}
use Rattle.std.specs.declared.cmp.Ordering.{Ordering}
use Rattle.std.specs.declared.cmp.Ordering.TheVariants.{Less, Equal, Greater}
use Rattle.std.proofs.lemmas.Cmp.{tied_itself}
use Rattle.std.proofs.lemmas.List.Elements.{All-nil, recursion_from_All}
use Rattle.std.proofs.lemmas.Map.Keys.{sorted_head, sorted_tail}
use Rattle.std.proofs.lemmas.Map.Views.{All-insert_key}
use Rattle.function_sums.specs.Tables.{IsTable, put_in_order}

abbrev pub Among : {X : Type 0} → X → List X → Type 0
Among x [] = ⊥
Among x (y ∷ ys) = (x ≡ y) ⊎ Among x ys

pub among-contained : {X : Type 0} (xs : List X) (x : X) → Contains xs x → Among x xs
among-contained [] x c = absurd (omega (arith, c.1))
among-contained (y ∷ ys) x (zero, lt, e) = inl (sym e)
among-contained (y ∷ ys) x (suc k, lt, e) = inr (among-contained ys x (k, omega (arith, lt), e))

pub contained-among : {X : Type 0} (xs : List X) (x : X) → Among x xs → Contains xs x
contained-among [] x m = absurd m
contained-among (y ∷ ys) x (inl e) = (zero, omega arith, sym e)
contained-among (y ∷ ys) x (inr m) = let c = contained-among ys x m in (suc c.0, omega (arith, c.1), c.2)

pub each-among : {X : Type 0} (P : X → Type 0) (x : X) (xs : List X) → AllByRecursion P xs → Among x xs → P x
each-among P x [] h m = absurd m
each-among P x (y ∷ ys) h (inl e) = subst P (sym e) h.0
each-among P x (y ∷ ys) h (inr m) = each-among P x ys h.1 m

module _ {K : Type 0} (R : K → K → Ordering) (o : IsTotalOrder R) where
  pub never : (x : K) → R x x ≡ Less → ⊥
  never x e = true≢false (ap is_lt (sym e ∙ tied_itself o x))

  same_sorted : (xs ys : List K) → IsStrictlySortedBy R xs → IsStrictlySortedBy R ys → ((x : K) → Among x xs → Among x ys) → ((x : K) → Among x ys → Among x xs) → xs ≡ ys
  same_sorted [] [] r s f g = refl
  same_sorted [] (y ∷ ys) r s f g = absurd (g y (inl refl))
  same_sorted (x ∷ xs) [] r s f g = absurd (f x (inl refl))
  same_sorted (x ∷ xs) (y ∷ ys) r s f g = λ i. first i ∷ same_sorted xs ys (sorted_tail R x xs r) (sorted_tail R y ys s) into back i
    where
      above : (z : K) → Among z xs → R x z ≡ Less
      above z = each-among (λ w. R x w ≡ Less) z xs (sorted_head R x xs r)

      higher : (z : K) → Among z ys → R y z ≡ Less
      higher z = each-among (λ w. R y w ≡ Less) z ys (sorted_head R y ys s)

      first : x ≡ y
      first = ⊎_elim (λ e. e) (λ m. ⊎_elim (λ e. sym e) (λ n. absurd (never x (o.trans x y x (above y n) (higher x m)))) (g y (inl refl))) (f x (inl refl))

      into : (z : K) → Among z xs → Among z ys
      into z m = ⊎_elim (λ e. absurd (never x (subst (λ w. R x w ≡ Less) (e ∙ sym first) (above z m)))) (λ n. n) (f z (inr m))

      back : (z : K) → Among z ys → Among z xs
      back z m = ⊎_elim (λ e. absurd (never y (subst (λ w. R y w ≡ Less) (e ∙ first) (higher z m)))) (λ n. n) (g z (inr m))

-- ---- keys put in order

module _ {K : Type 0} (R : K → K → Ordering) (o : IsTotalOrder R) where
  above : (k y : K) (ks : List K) → R k y ≡ Less → AllByRecursion (λ z. R y z ≡ Less) ks → AllByRecursion (λ z. R k z ≡ Less) ks
  above k y [] e h = tt
  above k y (z ∷ ks) e h = (o.trans k y z e h.0, above k y ks e h.1)

  below-insert : (x k : K) (ks : List K) → R x k ≡ Less → AllByRecursion (λ y. R x y ≡ Less) ks → AllByRecursion (λ y. R x y ≡ Less) (insert_key R ks k)
  below-insert x k [] e h = (e, tt)
  below-insert x k (y ∷ ks) e h = by (R k y) (below-insert x k ks e h.1)
    where
      by : (r : Ordering) → AllByRecursion (λ z. R x z ≡ Less) (insert_key R ks k) → AllByRecursion (λ z. R x z ≡ Less) (match_ordering r (k ∷ y ∷ ks) (y ∷ ks) (y ∷ insert_key R ks k))
      by Less i = (e, h)
      by Equal i = h
      by Greater i = (h.0, i)

  sorted-insert : (ks : List K) (k : K) → IsStrictlySortedBy R ks → IsStrictlySortedBy R (insert_key R ks k)
  unfolding IsStrictlySortedBy
  sorted-insert [] k s = (tt, tt)
  sorted-insert (y ∷ ks) k s = by (R k y) refl (sorted-insert ks k s.1)
    where
      by : (r : Ordering) → R k y ≡ r → IsStrictlySortedBy R (insert_key R ks k) → IsStrictlySortedBy R (match_ordering r (k ∷ y ∷ ks) (y ∷ ks) (y ∷ insert_key R ks k))
      by Less e i = ((e, above k y ks e s.0), s)
      by Equal e i = s
      by Greater e i = (below-insert y k ks (o.antisymm y k ∙ ap ordering_reverse e) s.0, i)

-- ---- names

module _ {X : Type 0} (name_of : X → List ℕ) where
  pub among-name : (row : X) (rows : List X) → Among row rows → Among (name_of row) (map name_of rows)
  among-name row [] m = m
  among-name row (one ∷ rows) (inl e) = inl (ap name_of e)
  among-name row (one ∷ rows) (inr m) = inr (among-name row rows m)

  pub named-among : (name : List ℕ) (rows : List X) → Among name (map name_of rows) → (row : X) × Among row rows × (name_of row ≡ name)
  named-among name [] m = absurd m
  named-among name (one ∷ rows) (inl e) = (one, inl refl, sym e)
  named-among name (one ∷ rows) (inr m) = let found = named-among name rows m in (found.0, inr found.1, found.2)

-- ---- tables

-- what is told alike has one table
pub told_alike : {X : Type 0} (cmp : X → X → Ordering) (name_of : X → List ℕ) (told telling : List ℕ → X) (weight weighing : List ℕ → ℕ) (rows : List X)
    → ((name : List ℕ) → told name ≡ telling name) → ((name : List ℕ) → weight name ≡ weighing name) → IsTable cmp name_of told weight rows → IsTable cmp name_of telling weighing rows
told_alike cmp name_of told telling weight weighing rows same alike are = record {
  each = λ k d lt. are.each k d lt ∙ same (name_of (get_or rows k d));
  all = λ name. ((λ there. omega (arith, (are.all name).0 there, alike name)), (λ weighs. (are.all name).1 (omega (arith, weighs, alike name))));
  ordered = are.ordered;
}

module _ {X : Type 0} (cmp : X → X → Ordering) (o : IsTotalOrder cmp) (name_of : X → List ℕ) (told : List ℕ → X) (weight : List ℕ → ℕ) where
  goes : (these those : List X) → IsTable cmp name_of told weight these → IsTable cmp name_of told weight those → (row : X) → Among row these → Among row those
  goes these those f g row m =
      let is = each-among (λ x. x ≡ told (name_of x)) row these (recursion_from_All (λ x. x ≡ told (name_of x)) these f.each) m in
      let weighs = (f.all (name_of row)).0 (contained-among (map name_of these) (name_of row) (among-name name_of row these m)) in
      let found = named-among name_of (name_of row) those (among-contained (map name_of those) (name_of row) ((g.all (name_of row)).1 weighs)) in
      let there = each-among (λ x. x ≡ told (name_of x)) found.0 those (recursion_from_All (λ x. x ≡ told (name_of x)) those g.each) found.1 in
      subst (λ x. Among x those) (there ∙ (ap told found.2 ∙ sym is)) found.1

  pub one_table : (one other : List X) → IsTable cmp name_of told weight one → IsTable cmp name_of told weight other → one ≡ other
  one_table one other f g = same_sorted cmp o one other f.ordered g.ordered (goes one other f g) (goes other one g f)

  module _ (one_name : (one other : X) → cmp one other ≡ Equal → name_of one ≡ name_of other) (back : (name : List ℕ) → name_of (told name) ≡ name) where
    nothing : IsStrictlySortedBy cmp []
    unfolding IsStrictlySortedBy
    nothing = tt

    ordered : (rows : List X) → IsStrictlySortedBy cmp (put_in_order cmp rows)
    ordered [] = nothing
    ordered (row ∷ rows) = sorted-insert cmp o (put_in_order cmp rows) row (ordered rows)

    each : (P : X → Type 0) (rows : List X) → AllByRecursion P rows → All P (put_in_order cmp rows)
    each P [] h = All-nil P
    each P (row ∷ rows) h = All-insert_key cmp row P (put_in_order cmp rows) (each P rows h.1) h.0

    inserted : (name : List ℕ) (rows : List X) (row : X) → Among name (name_of row ∷ map name_of rows) → Among name (map name_of (insert_key cmp rows row))
    inserted name [] row m = m
    inserted name (x ∷ rows) row m = cases (cmp row x) refl (inserted name rows row)
      where
        cases : (r : Ordering) → cmp row x ≡ r → (Among name (name_of row ∷ map name_of rows) → Among name (map name_of (insert_key cmp rows row)))
            → Among name (map name_of (match_ordering r (row ∷ x ∷ rows) (x ∷ rows) (x ∷ insert_key cmp rows row)))
        cases Less e later = m
        cases Equal e later = ⊎_elim (λ is. inl (is ∙ one_name row x e)) (λ there. there) m
        cases Greater e later = ⊎_elim (λ is. inr (later (inl is))) (λ there. ⊎_elim (λ is. inl is) (λ among. inr (later (inr among))) there) m

    put : (name : List ℕ) (rows : List X) → Among name (map name_of rows) → Among name (map name_of (put_in_order cmp rows))
    put name [] m = m
    put name (row ∷ rows) m = inserted name (put_in_order cmp rows) row (⊎_elim (λ is. inl is) (λ there. inr (put name rows there)) m)

    rows_are : (names : List (List ℕ)) → AllByRecursion (λ x. x ≡ told (name_of x)) (map told names)
    rows_are [] = tt
    rows_are (name ∷ names) = (ap told (sym (back name)), rows_are names)

    rows_weigh : (names : List (List ℕ)) → ((name : List ℕ) → Among name names → 0 < weight name) → AllByRecursion (λ x. 0 < weight (name_of x)) (map told names)
    rows_weigh [] h = tt
    rows_weigh (name ∷ names) h = (subst (λ n. 0 < weight n) (sym (back name)) (h name (inl refl)), rows_weigh names (λ other m. h other (inr m)))

    among-rows : (name : List ℕ) (names : List (List ℕ)) → Among name names → Among name (map name_of (map told names))
    among-rows name [] m = m
    among-rows name (x ∷ names) (inl e) = inl (e ∙ sym (back x))
    among-rows name (x ∷ names) (inr m) = inr (among-rows name names m)

    pub listed : (names : List (List ℕ)) → ((name : List ℕ) → Among name names → 0 < weight name) → ((name : List ℕ) → 0 < weight name → Among name names)
        → IsTable cmp name_of told weight (put_in_order cmp (map told names))
    listed names weighs weighed = record {
      each = each (λ x. x ≡ told (name_of x)) rows (rows_are names);
      all = λ name. (heavy name, λ heavy. contained-among (map name_of (put_in_order cmp rows)) name (put name rows (among-rows name names (weighed name heavy))));
      ordered = ordered rows;
    }
      where
        rows : List X
        rows = map told names

        heavy : (name : List ℕ) → Contains (map name_of (put_in_order cmp rows)) name → 0 < weight name
        heavy name there =
            let all = put_in_order cmp rows in
            let found = named-among name_of name all (among-contained (map name_of all) name there) in
            let positive = each (λ x. 0 < weight (name_of x)) rows (rows_weigh names weighs) in
            subst (λ n. 0 < weight n) found.2 (each-among (λ x. 0 < weight (name_of x)) found.0 all (recursion_from_All (λ x. 0 < weight (name_of x)) all positive) found.1)
