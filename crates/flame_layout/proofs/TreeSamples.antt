-- the sums of a tree of numbers and those of its samples by names
use Rattle.std.proofs.Common.{◌≡◌, ℕ, zero, suc, ◌+◌, ◌≤◌, ◌<◌, List, [], ◌∷◌, ◌++◌, Bool, true, false, cond, ◌&&◌, length, map, get_or, sym, ◌∙◌, ap, subst, refl, arith, ◌⊎◌, inl, inr, ⊎_elim, Contains, T, nat_eq, Option, Some}
use Rattle.std.specs.Prelude.{if◌then◌else◌}
use Rattle.std.specs.Option.{unwrap_or}
use Rattle.std.specs.List.{AllByRecursion}
use Rattle.std.specs.Str.{bytes_eq}
use Rattle.std.specs.declared.cmp.Ordering.{Ordering}
use Rattle.std.specs.declared.cmp.Ordering.TheVariants.{Less, Equal, Greater}
use Rattle.std.specs.Ordering.{nat_cmp, is_lt, is_eq, eq_by_cmp}
use Rattle.std.specs.Cmp.Lexicographic.{slice_cmp, pointwise}
use Rattle.std.specs.FinMap.{entries, get-entries, entries_sorted, nat_cmp-IsAntisymmetric, slice_cmp-IsAntisymmetric}
use Rattle.std.specs.FinMap.Entries.{find, is_sorted, below_all}
use Rattle.std.proofs.lemmas.List.Sums.{sum_by-cons}
use Rattle.std.proofs.lemmas.List.{append_assoc}
use Rattle.std.proofs.lemmas.Slice.Eq.{bytes_eq-Decides}
use Rattle.std.proofs.lemmas.Cmp.{nat_list_cmp_total}
use Rattle.std.proofs.lemmas.Map.Text.{is_eq-slice_cmp}
use Rattle.std.proofs.lemmas.Bool.{false≢true, cases_lt}
use Rattle.std.proofs.lemmas.Bool.Decides.{Decides-eqb, same_from_decides}
use Rattle.call_tree.specs.CallTree.{Tree, own_weight, total_weight}
use Rattle.call_tree.specs.PathSums.{begins_with, total_of, own_of}
use Rattle.call_tree.specs.FrameTable.{HasDistinctNames}
use Rattle.call_tree.specs.Listing.{named, HasNumbersOf}
use Rattle.sample_tables.specs.declared.samples.Sample.{Sample}
use Rattle.merged_stacks.specs.Timeline.{Stack}
use Rattle.merged_stacks.specs.Merged.{weighed}
use Rattle.flame_layout.specs.Paths.{total_at, own_at, tree_samples, Visit, IsRising}
use Rattle.merged_stacks.specs.Order.{stack_cmp}
use Rattle.flame_layout.proofs.Order.{irreflexive}
use Rattle.flame_layout.proofs.ChartLaws.{In}
use Rattle.flame_layout.proofs.Rising.{Among}
use Rattle.flame_layout.proofs.PathWords.{path_total, visit_of, visit_at-is, total_at-is}
use Rattle.flame_layout.proofs.Sums.{IsListing}
use Rattle.call_tree.specs.declared.listing.Visit.{Visit as TreeVisit}
use Rattle.call_tree.specs.Listing.{IsListing as IsTreeListing}

-- ---- the own weight of a path as a sum over the entries

pub equal_is : (r : Ordering) → is_eq r ≡ true → r ≡ Equal
equal_is Less e = cc
equal_is Equal e = refl
equal_is Greater e = cc

paths_same : (p q : List ℕ) → pointwise nat_eq p q ≡ true → p ≡ q
paths_same p q e = (bytes_eq-Decides p q).0 e

none_below : (q x : List ℕ) (es : List (List ℕ × ℕ)) → q ≡ x → T (below_all (slice_cmp nat_cmp) x es) → own_of nat_eq es q ≡ 0
unfolding own_of
none_below q x [] e h = refl
none_below q x (y ∷ ys) e h = by (is_lt (slice_cmp nat_cmp x y.0)) refl (pointwise nat_eq q y.0) refl (none_below q x ys e) h
  where
    less_is : (r : Ordering) → is_lt r ≡ true → r ≡ Less
    less_is Less g = refl
    less_is Equal g = cc
    less_is Greater g = cc

    by : (b : Bool) → is_lt (slice_cmp nat_cmp x y.0) ≡ b → (t : Bool) → pointwise nat_eq q y.0 ≡ t → (T (below_all (slice_cmp nat_cmp) x ys) → own_of nat_eq ys q ≡ 0) →
        T (b && below_all (slice_cmp nat_cmp) x ys) → own_of nat_eq (y ∷ ys) q ≡ 0
    by false l t g ih h = absurd h
    by true l true g ih h = absurd (irreflexive (slice_cmp nat_cmp) nat_list_cmp_total x (subst (λ z. slice_cmp nat_cmp x z ≡ Less) (sym (paths_same q y.0 g) ∙ e) (less_is _ l)))
    by true l false g ih h = sum_by-cons (λ (s : List ℕ × ℕ). if pointwise nat_eq q s.0 then s.1 else 0) y ys ∙ (ap (λ b. cond b y.1 0 + own_of nat_eq ys q) g ∙ omega (arith, ih h))

found_sum : (q : List ℕ) (es : List (List ℕ × ℕ)) → T (is_sorted (slice_cmp nat_cmp) es) → unwrap_or (find (slice_cmp nat_cmp) q es) 0 ≡ own_of nat_eq es q
unfolding own_of
found_sum q [] h = refl
found_sum q (e ∷ es) h = by (below_all (slice_cmp nat_cmp) e.0 es) refl (eq_by_cmp (slice_cmp nat_cmp) q e.0) refl (pointwise nat_eq q e.0) refl (found_sum q es) h
  where
    by : (b : Bool) → below_all (slice_cmp nat_cmp) e.0 es ≡ b → (t : Bool) → eq_by_cmp (slice_cmp nat_cmp) q e.0 ≡ t → (u : Bool) → pointwise nat_eq q e.0 ≡ u →
        (T (is_sorted (slice_cmp nat_cmp) es) → unwrap_or (find (slice_cmp nat_cmp) q es) 0 ≡ own_of nat_eq es q) → T (b && is_sorted (slice_cmp nat_cmp) es) →
        unwrap_or (cond t (Some e.1) (find (slice_cmp nat_cmp) q es)) 0 ≡ own_of nat_eq (e ∷ es) q
    by false l t g u k ih h = absurd h
    by true l true g u k ih h =
        let same : q ≡ e.0 = slice_cmp-IsAntisymmetric nat_cmp-IsAntisymmetric q e.0 (equal_is _ g) in
        let yes : pointwise nat_eq q e.0 ≡ true = (bytes_eq-Decides q e.0).1 same in
        let none : own_of nat_eq es q ≡ 0 = none_below q e.0 es same (subst T (sym l) tt) in
        sym (sum_by-cons (λ (s : List ℕ × ℕ). if pointwise nat_eq q s.0 then s.1 else 0) e es ∙ ((λ i. cond (yes i) e.1 0 + none i) ∙ omega arith))
    by true l false g true k ih h = absurd (false≢true (sym g ∙ (is_eq-slice_cmp q e.0 ∙ k)))
    by true l false g false k ih h =
        ih h ∙ sym (sum_by-cons (λ (s : List ℕ × ℕ). if pointwise nat_eq q s.0 then s.1 else 0) e es ∙ (ap (λ b. cond b e.1 0 + own_of nat_eq es q) k ∙ omega arith))

pub own_weight-sum : (tree : Tree) (q : List ℕ) → own_weight tree q ≡ own_of nat_eq (entries tree) q
own_weight-sum tree q = ap (λ (o : Option ℕ). unwrap_or o 0) (get-entries tree q) ∙ found_sum q (entries tree) (entries_sorted tree)

-- ---- numbers and names

abbrev pub InTable : List (List ℕ) → List ℕ → Type 0
InTable names path = AllByRecursion (λ n. n < length names) path

same_number : (names : List (List ℕ)) → HasDistinctNames names → (x y : ℕ) → x < length names → y < length names → nat_eq x y ≡ bytes_eq (get_or names x []) (get_or names y [])
same_number names d x y hx hy =
    same_from_decides _ _ (Decides-eqb x y) ((λ t. d x y hx hy ((bytes_eq-Decides _ _).0 t)), (λ e. (bytes_eq-Decides _ _).1 (ap (λ n. get_or names n []) e)))

begins_named : (names : List (List ℕ)) → HasDistinctNames names → (p q : List ℕ) → InTable names p → InTable names q → begins_with nat_eq p q ≡ begins_with bytes_eq (named names p) (named names q)
begins_named names d [] q h g = refl
begins_named names d (x ∷ p) [] h g = refl
begins_named names d (x ∷ p) (y ∷ q) h g = λ i. same_number names d x y h.0 g.0 i && begins_named names d p q h.1 g.1 i

same_named : (names : List (List ℕ)) → HasDistinctNames names → (p q : List ℕ) → InTable names p → InTable names q → pointwise nat_eq p q ≡ pointwise bytes_eq (named names p) (named names q)
same_named names d [] [] h g = refl
same_named names d [] (y ∷ q) h g = refl
same_named names d (x ∷ p) [] h g = refl
same_named names d (x ∷ p) (y ∷ q) h g = λ i. same_number names d x y h.0 g.0 i && same_named names d p q h.1 g.1 i

begins_itself : (p r : List ℕ) → begins_with nat_eq p (p ++ r) ≡ true
begins_itself [] r = refl
begins_itself (x ∷ p) r = (λ i. (Decides-eqb x x).1 refl i && begins_itself p r i)

begins_in : (names : List (List ℕ)) (p q : List ℕ) → begins_with nat_eq p q ≡ true → InTable names q → InTable names p
begins_in names [] q e h = tt
begins_in names (x ∷ p) [] e h = cc
begins_in names (x ∷ p) (y ∷ q) e h = by (nat_eq x y) refl e (λ t. begins_in names p q t h.1)
  where
    by : (b : Bool) → nat_eq x y ≡ b → (b && begins_with nat_eq p q) ≡ true → (begins_with nat_eq p q ≡ true → InTable names p) → InTable names (x ∷ p)
    by true t f ih = (subst (λ n. n < length names) (sym ((Decides-eqb x y).0 t)) h.0, ih f)
    by false t f ih = cc

-- the tree's entries with weight have their numbers in the table
abbrev pub IsNamed : List (List ℕ) → List ℕ × ℕ → Type 0
IsNamed names e = (e.1 ≡ 0) ⊎ InTable names e.0

abbrev one_total : List ℕ → List ℕ × ℕ → ℕ
one_total p e = if begins_with nat_eq p e.0 then e.1 else 0

total-cons : (p : List ℕ) (e : List ℕ × ℕ) (es : List (List ℕ × ℕ)) → total_of nat_eq (e ∷ es) p ≡ one_total p e + total_of nat_eq es p
unfolding total_of
total-cons p e es = sum_by-cons (one_total p) e es

entry_total : (p : List ℕ) (e : List ℕ × ℕ) (es : List (List ℕ × ℕ)) → In e es → begins_with nat_eq p e.0 ≡ true → e.1 ≤ total_of nat_eq es p
entry_total p e [] m t = absurd m
entry_total p e (f ∷ fs) m t =
    ⊎_elim
    (λ same. omega (arith, total-cons p f fs, ap (one_total p) same, ap (λ b. cond b e.1 0) t))
    (λ later. omega (arith, total-cons p f fs, entry_total p e fs later t))
    m

rest_in : (names : List (List ℕ)) (tree : Tree) → HasNumbersOf names tree → (e : List ℕ × ℕ) → In e (entries tree) → 0 < e.1 → (front rest : List ℕ) → e.0 ≡ front ++ rest → InTable names rest
rest_in names tree numbers e m w front [] s = tt
rest_in names tree numbers e m w front (n ∷ rest) s =
    let next : e.0 ≡ (front ++ n ∷ []) ++ rest = s ∙ sym (append_assoc front (n ∷ []) rest) in
    let begins : begins_with nat_eq (front ++ n ∷ []) e.0 ≡ true = ap (begins_with nat_eq (front ++ n ∷ [])) next ∙ begins_itself (front ++ n ∷ []) rest in
    (numbers front n (omega (arith, w, entry_total (front ++ n ∷ []) e (entries tree) m begins)), rest_in names tree numbers e m w (front ++ n ∷ []) rest next)

each_of : {X : Type 0} (P : X → Type 0) (xs : List X) → ((x : X) → In x xs → P x) → AllByRecursion P xs
each_of P [] h = tt
each_of P (x ∷ xs) h = (h x (inl refl), each_of P xs (λ y m. h y (inr m)))

pub entries_named : (names : List (List ℕ)) (tree : Tree) → HasNumbersOf names tree → AllByRecursion (IsNamed names) (entries tree)
entries_named names tree numbers =
    each_of (IsNamed names) (entries tree) (λ e m. ⊎_elim (λ lt. inr (rest_in names tree numbers e m lt [] e.0 refl)) (λ le. inl (omega (arith, le))) (cases_lt 0 e.1))

-- a path with weight has its numbers in the table
pub path_in : (names : List (List ℕ)) (es : List (List ℕ × ℕ)) (p : List ℕ) → AllByRecursion (IsNamed names) es → 0 < total_of nat_eq es p → InTable names p
unfolding total_of
path_in names [] p h w = absurd (omega arith)
path_in names (e ∷ es) p h w = by (begins_with nat_eq p e.0) refl (path_in names es p h.1)
  where
    by : (b : Bool) → begins_with nat_eq p e.0 ≡ b → (0 < total_of nat_eq es p → InTable names p) → InTable names p
    by true t ih = ⊎_elim (λ z. ih (omega (arith, w, total-cons p e es, ap (λ b. cond b e.1 0) t, z))) (λ g. begins_in names p e.0 t g) h.0
    by false t ih = ih (omega (arith, w, total-cons p e es, ap (λ b. cond b e.1 0) t))

-- ---- the sums by names

abbrev pub sampled : List (List ℕ) → List (List ℕ × ℕ) → List Sample
sampled names es = map (λ entry. record { stack = named names entry.0; weight = entry.1 }) es

zero-or : (b c : Bool) (n : ℕ) → n ≡ 0 → cond b n 0 ≡ cond c n 0
zero-or true true n z = refl
zero-or true false n z = z
zero-or false true n z = sym z
zero-or false false n z = refl

pub total_named : (names : List (List ℕ)) → HasDistinctNames names → (p : List ℕ) (es : List (List ℕ × ℕ)) → InTable names p → AllByRecursion (IsNamed names) es → total_of nat_eq es p ≡ total_at (named names p) (sampled names es)
unfolding total_of
total_named names d p [] h g = refl
total_named names d p (e ∷ es) h g =
    sum_by-cons (one_total p) e es ∙
    ((λ i. one i + total_named names d p es h g.1 i) ∙
    sym (sum_by-cons (λ (s : Stack × ℕ). if begins_with bytes_eq (named names p) s.0 then s.1 else 0) (named names e.0, e.1) (weighed (sampled names es))))
  where
    one : one_total p e ≡ cond (begins_with bytes_eq (named names p) (named names e.0)) e.1 0
    one = ⊎_elim (λ z. zero-or _ _ e.1 z) (λ t. ap (λ b. cond b e.1 0) (begins_named names d p e.0 h t)) g.0

pub own_named : (names : List (List ℕ)) → HasDistinctNames names → (p : List ℕ) (es : List (List ℕ × ℕ)) → InTable names p → AllByRecursion (IsNamed names) es → own_of nat_eq es p ≡ own_at (named names p) (sampled names es)
unfolding own_of
own_named names d p [] h g = refl
own_named names d p (e ∷ es) h g =
    sum_by-cons (λ (s : List ℕ × ℕ). if pointwise nat_eq p s.0 then s.1 else 0) e es ∙
    ((λ i. one i + own_named names d p es h g.1 i) ∙
    sym (sum_by-cons (λ (s : Stack × ℕ). if pointwise bytes_eq (named names p) s.0 then s.1 else 0) (named names e.0, e.1) (weighed (sampled names es))))
  where
    one : cond (pointwise nat_eq p e.0) e.1 0 ≡ cond (pointwise bytes_eq (named names p) (named names e.0)) e.1 0
    one = ⊎_elim (λ z. zero-or _ _ e.1 z) (λ t. ap (λ b. cond b e.1 0) (same_named names d p e.0 h t)) g.0

-- ---- each path of names with weight is that of a path of numbers

pub record Numbered (names : List (List ℕ)) (stack : Stack) (q : List ℕ) : Type 0 where
  path : List ℕ
  is : stack ≡ named names path
  begins : begins_with nat_eq path q ≡ true

numbered : (names : List (List ℕ)) (stack : Stack) (q : List ℕ) → begins_with bytes_eq stack (named names q) ≡ true → Numbered names stack q
numbered names [] q e = record { path = []; is = refl; begins = refl }
numbered names (x ∷ stack) [] e = cc
numbered names (x ∷ stack) (n ∷ q) e = by (bytes_eq x (get_or names n [])) refl e (numbered names stack q)
  where
    by : (b : Bool) → bytes_eq x (get_or names n []) ≡ b → (b && begins_with bytes_eq stack (named names q)) ≡ true → (begins_with bytes_eq stack (named names q) ≡ true → Numbered names stack q) → Numbered names (x ∷ stack) (n ∷ q)
    by true t f ih =
        let r = ih f in
        record { path = n ∷ r.path; is = (λ i. (bytes_eq-Decides x (get_or names n [])).0 t i ∷ r.is i); begins = (λ i. (Decides-eqb n n).1 refl i && r.begins i) }
    by false t f ih = cc

pub record HasNumbers (names : List (List ℕ)) (stack : Stack) (es : List (List ℕ × ℕ)) : Type 0 where
  pub path : List ℕ
  pub is : stack ≡ named names path
  pub weighs : 0 < total_of nat_eq es path

pub has_numbers : (names : List (List ℕ)) (stack : Stack) (es : List (List ℕ × ℕ)) → 0 < total_at stack (sampled names es) → HasNumbers names stack es
unfolding total_of
has_numbers names stack [] w = absurd (omega arith)
has_numbers names stack (e ∷ es) w = by (begins_with bytes_eq stack (named names e.0)) refl (has_numbers names stack es)
  where
    parts : total_at stack (sampled names (e ∷ es)) ≡ cond (begins_with bytes_eq stack (named names e.0)) e.1 0 + total_at stack (sampled names es)
    parts = sum_by-cons (λ (s : Stack × ℕ). if begins_with bytes_eq stack s.0 then s.1 else 0) (named names e.0, e.1) (weighed (sampled names es))

    later : HasNumbers names stack es → HasNumbers names stack (e ∷ es)
    later r = record { path = r.path; is = r.is; weighs = omega (arith, r.weighs, total-cons r.path e es) }

    by : (b : Bool) → begins_with bytes_eq stack (named names e.0) ≡ b → (0 < total_at stack (sampled names es) → HasNumbers names stack es) → HasNumbers names stack (e ∷ es)
    by true t ih =
        ⊎_elim
        (λ lt. let r = numbered names stack e.0 t in
        (let n : HasNumbers names stack (e ∷ es) = record { path = r.path; is = r.is; weighs = omega (arith, lt, total-cons r.path e es, ap (λ b. cond b e.1 0) r.begins) } in n))
        (λ le. later (ih (omega (arith, w, parts, ap (λ b. cond b e.1 0) t, le))))
        (cases_lt 0 e.1)
    by false t ih = later (ih (omega (arith, w, parts, ap (λ b. cond b e.1 0) t)))

-- ---- the listing by names

abbrev pub named_visit : List (List ℕ) → Tree → List ℕ → Visit
named_visit names tree path = record { path = named names path; own = own_weight tree path; total = total_weight tree path }

pub rising_named : (names : List (List ℕ)) (paths : List (List ℕ)) → ((i j : ℕ) → i < j → j < length paths → stack_cmp (named names (get_or paths i [])) (named names (get_or paths j [])) ≡ Less) → IsRising (map (named names) paths)
rising_named names [] h = tt
rising_named names (p ∷ ps) h = (above ps (λ k l. h 0 (suc k) (omega arith) (omega (arith, l))), rising_named names ps (λ i j l m. h (suc i) (suc j) (omega (arith, l)) (omega (arith, m))))
  where
    above : (qs : List (List ℕ)) → ((k : ℕ) → k < length qs → stack_cmp (named names p) (named names (get_or qs k [])) ≡ Less) → AllByRecursion (λ later. stack_cmp (named names p) later ≡ Less) (map (named names) qs)
    above [] g = tt
    above (q ∷ qs) g = (g 0 (omega arith), above qs (λ k l. g (suc k) (omega (arith, l))))

pub in_paths : (p : List ℕ) (ps : List (List ℕ)) → Contains ps p → In p ps
in_paths p [] c = absurd (omega (arith, c.1))
in_paths p (q ∷ qs) (zero, l, e) = inl (sym e)
in_paths p (q ∷ qs) (suc k, l, e) = inr (in_paths p qs (k, omega (arith, l), e))

pub paths_in : (p : List ℕ) (ps : List (List ℕ)) → In p ps → Contains ps p
paths_in p [] h = absurd h
paths_in p (q ∷ qs) h = ⊎_elim (λ e. (0, omega arith, sym e)) (λ m. let c = paths_in p qs m in (suc c.0, omega (arith, c.1), c.2)) h

pub among_named : (names : List (List ℕ)) (p : List ℕ) (ps : List (List ℕ)) → In p ps → Among (named names p) (map (named names) ps)
among_named names p [] h = absurd h
among_named names p (q ∷ qs) h = ⊎_elim (λ e. inl (ap (named names) e)) (λ m. inr (among_named names p qs m)) h

pub paths_of_visits : (names : List (List ℕ)) (tree : Tree) (ps : List (List ℕ)) → map (λ (visit : Visit). visit.path) (map (named_visit names tree) ps) ≡ map (named names) ps
paths_of_visits names tree [] = refl
paths_of_visits names tree (p ∷ ps) = ap (λ r. named names p ∷ r) (paths_of_visits names tree ps)

pub each_visit : (P : Visit → Type 0) (f : List ℕ → Visit) (ps : List (List ℕ)) → ((p : List ℕ) → In p ps → P (f p)) → AllByRecursion P (map f ps)
each_visit P f [] h = tt
each_visit P f (p ∷ ps) h = (h p (inl refl), each_visit P f ps (λ q m. h q (inr m)))

-- the tree's listing, by names, is one of its samples
pub named_listing : (names : List (List ℕ)) (tree : Tree) (visits : List TreeVisit) (l : IsTreeListing names tree visits) → HasDistinctNames names → HasNumbersOf names tree →
    IsListing (map (named_visit names tree) l.paths) (tree_samples names tree)
named_listing names tree visits l d numbers =
    let samples = tree_samples names tree in
    let known = entries_named names tree numbers in
    record {
      rises = subst IsRising (sym (paths_of_visits names tree l.paths)) (rising_named names l.paths l.rises);
      all = λ stack w.
          let r = has_numbers names stack (entries tree) (subst (λ n. 0 < n) (sym (total_at-is stack samples)) w) in
          subst (λ ps. Among stack ps) (sym (paths_of_visits names tree l.paths))
          (subst (λ s. Among s (map (named names) l.paths)) (sym r.is) (among_named names r.path l.paths (in_paths r.path l.paths ((l.members r.path).1 r.weighs))));
      sums = each_visit (λ visit. (visit ≡ visit_of samples visit.path) × (0 < path_total visit.path samples)) (named_visit names tree) l.paths (λ p m.
          let w = (l.members p).0 (paths_in p l.paths m) in
          let here = path_in names (entries tree) p known w in
          let total = total_named names d p (entries tree) here known in
          let own : own_weight tree p ≡ own_at (named names p) samples = own_weight-sum tree p ∙ own_named names d p (entries tree) here known in (
            (λ i. record { path = named names p; own = own i; total = total i }) ∙ ap (λ f. f (named names p)) (visit_at-is samples),
            subst (λ n. 0 < n) (total ∙ total_at-is (named names p) samples) w,
          ));
    }
