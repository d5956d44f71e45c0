-- Names in order, and the ranks of told names.
use Rattle.std.proofs.Common.{◌≡◌, ℕ, ◌+◌, ◌-◌, ◌<◌, ◌≤◌, ◌⊎◌, inl, inr, ⊎_elim, false, true≢false, List, [], ◌∷◌, ◌++◌, length, get_or, map, take, refl, sym, ap, subst, ◌∙◌, arith, is_lt, set, IsPermutation}
use Rattle.std.specs.List.{enumerate_from}
use Rattle.std.specs.Ordering.{nat_cmp, ordering_then, ordering_reverse}
use Rattle.std.specs.Cmp.Lexicographic.{slice_cmp}
use Rattle.std.specs.declared.cmp.Ordering.{Ordering}
use Rattle.std.specs.declared.cmp.Ordering.TheVariants.{Less, Equal, Greater}
use Rattle.std.specs.FinMap.{slice_cmp-IsAntisymmetric, nat_cmp-IsAntisymmetric}
use Rattle.std.proofs.lemmas.Cmp.{nat_list_cmp_total}
use Rattle.std.proofs.lemmas.List.{length-append, get_or_append_left, get_or_push, length_push}
use Rattle.sample_tables.specs.Rows.{name_at}
use Rattle.std.proofs.lemmas.List.{map_push, flat_map_more, take_more, length-map}
use Rattle.std.proofs.lemmas.List.FromFn.{length-enumerate_from, get_or-enumerate_from}
use Rattle.std.proofs.lemmas.List.Sorted.{IsPermutation-sym, Contains-permutation, length_permutation}
use Rattle.std.proofs.lemmas.List.{get_or-set_same, get_or-set_other, same_lists, get_or-map, get_or_default}
use Rattle.std.proofs.lemmas.Bool.{cases_eq}
use Rattle.stack_core.specs.Ledgers.{ListState}
use Rattle.ranked_rows.specs.Ranks.{AreRising, AreRanks, all_told}
use Rattle.ranked_rows.specs.checked.Names.{NameAt, placed_name, AreSorted}

-- a name behind the names, by its bytes
pub enumerate_push : (n : ℕ) (xs : List (List ℕ)) (x : List ℕ) → enumerate_from n (xs ++ x ∷ []) ≡ enumerate_from n xs ++ (n + length xs, x) ∷ []
enumerate_push n [] x = ap (λ k. (k, x) ∷ []) (omega arith)
enumerate_push n (y ∷ ys) x = ap (λ es. (n, y) ∷ es) (enumerate_push (n + 1) ys x ∙ ap (λ k. enumerate_from (n + 1) ys ++ (k, x) ∷ []) (omega arith))

-- what is not below, and is another, is above
pub above : (a b : List ℕ) → is_lt (slice_cmp nat_cmp b a) ≡ false → (a ≡ b → ⊥) → slice_cmp nat_cmp a b ≡ Less
above a b up other = by (slice_cmp nat_cmp b a) refl
  where
    by : (o : Ordering) → o ≡ slice_cmp nat_cmp b a → slice_cmp nat_cmp a b ≡ Less
    by Less e = absurd (true≢false (ap is_lt e ∙ up))
    by Equal e = absurd (other (sym (slice_cmp-IsAntisymmetric nat_cmp-IsAntisymmetric b a (sym e))))
    by Greater e = nat_list_cmp_total.antisymm a b ∙ ap ordering_reverse (sym e)

last_or_before : (i n : ℕ) → i < n + 1 → (i ≡ n) ⊎ (i < n)
last_or_before i n lt = grind arith

-- a name that is above the last one goes on rising
pub rising_push : (names : List (List ℕ)) (name : List ℕ) → AreRising names
    → (0 < length names → is_lt (slice_cmp nat_cmp name (name_at names (length names - 1))) ≡ false)
    → (0 < length names → name_at names (length names - 1) ≡ name → ⊥)
    → AreRising (names ++ name ∷ [])
rising_push names name rising up other i j lt lj =
    let n : ℕ = length names in
    let first : get_or (names ++ name ∷ []) i [] ≡ name_at names i = get_or_append_left names (name ∷ []) [] i (omega (arith, length_push names name)) in
    ⊎_elim (λ (e : j ≡ n).
    let here : get_or (names ++ name ∷ []) j [] ≡ name = get_or_push names name [] j (sym e) in
    let some : 0 < n = omega arith in
    let top : slice_cmp nat_cmp (name_at names (n - 1)) name ≡ Less = above _ _ (up some) (other some) in
    (λ k. slice_cmp nat_cmp (first k) (here k)) ∙
    ⊎_elim (λ (e : i ≡ n - 1). ap (λ m. slice_cmp nat_cmp (name_at names m) name) e ∙ top)
    (λ (l : i < n - 1). nat_list_cmp_total.trans (name_at names i) (name_at names (n - 1)) name (rising i (n - 1) l (omega arith)) top)
    (last_or_before i (n - 1) (omega arith)))
    (λ (l : j < n). (λ k. slice_cmp nat_cmp (first k) (get_or_append_left names (name ∷ []) [] j l k)) ∙ rising i j lt l)
    (last_or_before j n (omega (arith, length_push names name)))

-- one told name more
pub told_more : (told new : List NameAt) (e : NameAt) (names : List (List ℕ)) (i : ℕ) → i < length names → new ≡ told ++ e ∷ [] → e.1 ≡ length told → e.0.now ≡ name_at names i
    → map placed_name told ≡ enumerate_from 0 (take i names) → map placed_name new ≡ enumerate_from 0 (take (i + 1) names)
told_more told new e names i lt grown place name h =
    let before : List (List ℕ) = take i names in
    let count : length told ≡ length before = sym (length-map told placed_name) ∙ ap length h ∙ length-enumerate_from 0 before in
    let here : e.1 ≡ 0 + length before = omega (arith, place, count) in
    let one : placed_name e ≡ (0 + length before, name_at names i) = (λ k. (here k, name k)) in
    ap (map placed_name) grown ∙ map_push placed_name told e ∙ (λ k. h k ++ one k ∷ []) ∙ sym (enumerate_push 0 before (name_at names i)) ∙ ap (enumerate_from 0) (sym (take_more names i [] lt))

-- the told names that were ranked have ranks of their names
abbrev pub AreRanked : List NameAt → List (List ℕ) → List ℕ → ℕ → Type 0
AreRanked told known ranks i =
    (j : ℕ) (d : NameAt) → j < i → (get_or ranks (get_or told j d).1 0 < length known) × (name_at known (get_or ranks (get_or told j d).1 0) ≡ (get_or told j d).0.now)

-- one told name is ranked more
pub ranked_more : (names : List (List ℕ)) (told : List NameAt) (known more : List (List ℕ)) (ranks : List ℕ) (i rank : ℕ) (e : NameAt) → AreSorted names told → length ranks ≡ length told
    → i < length told → e ≡ get_or told i e → rank < length (known ++ more) → name_at (known ++ more) rank ≡ e.0.now
    → AreRanked told known ranks i → AreRanked told (known ++ more) (set ranks e.1 rank) (i + 1)
ranked_more names told known more ranks i rank e s len lt is below name done j d lj = by (cases_eq (get_or told j d).1 e.1)
  where
    at : NameAt
    at = get_or told j d

    here : (d : NameAt) → get_or told i d ≡ e
    here d = get_or_default told i d e lt ∙ sym is

    inside : e.1 < length ranks
    inside = omega (arith, len, (s.are i e lt).0, ap (λ (x : NameAt). x.1) is, s.len)

    jt : j < length told
    jt = omega arith

    Goal : ℕ → Type 0
    Goal r = (r < length (known ++ more)) × (name_at (known ++ more) r ≡ at.0.now)

    same : at.1 ≡ e.1 → e.0.now ≡ at.0.now
    same q = ap (λ (x : NameAt). x.0.now) is ∙ (s.are i e lt).1 ∙ ap (name_at names) (sym (ap (λ (x : NameAt). x.1) is) ∙ sym q) ∙ sym (s.are j d jt).1

    by : (at.1 ≡ e.1) ⊎ (at.1 ≡ e.1 → ⊥) → Goal (get_or (set ranks e.1 rank) at.1 0)
    by (inl q) = subst Goal (sym (ap (λ k. get_or (set ranks e.1 rank) k 0) q ∙ get_or-set_same ranks e.1 rank 0 inside)) (below, name ∙ same q)
    by (inr n) = subst Goal (sym (get_or-set_other ranks e.1 at.1 rank 0 n)) (old (⊎_elim (λ (q : j ≡ i). absurd (n (ap (λ (x : NameAt). x.1) (ap (λ k. get_or told k d) q ∙ here d)))) (λ (l : j < i). done j d l) (last_or_before j i lj)))
      where
        old : (get_or ranks at.1 0 < length known) × (name_at known (get_or ranks at.1 0) ≡ at.0.now) → Goal (get_or ranks at.1 0)
        old h = (omega (arith, h.0, length-append known more), get_or_append_left known more [] (get_or ranks at.1 0) h.0 ∙ h.1)

abbrev pub no_name : NameAt
no_name = (record { ref_ptr = (0, 0); now = [] }, 0)

-- once all are ranked
pub ranked_all : (names : List (List ℕ)) (told : List NameAt) (known : List (List ℕ)) (ranks : List ℕ) → AreSorted names told → length ranks ≡ length told → AreRising known
    → AreRanked told known ranks (length told) → AreRanks names known ranks
ranked_all names told known ranks s len rising done = record {
  rising = rising;
  below = λ k d lk. subst (λ r. r < length known) (get_or_default ranks k 0 d lk) (at k lk).0;
  named = same_lists (map (name_at known) ranks) names (omega (arith, length-map ranks (name_at known), len, s.len))
      (λ k d lk.
      let inside : k < length ranks = omega (arith, length-map ranks (name_at known)) in
      get_or-map (name_at known) ranks k 0 d inside ∙ (at k inside).1 ∙ get_or_default names k [] d (omega (arith, len, s.len)));
}
  where
    at : (k : ℕ) → k < length ranks → (get_or ranks k 0 < length known) × (name_at known (get_or ranks k 0) ≡ name_at names k)
    at k lk =
        let w = s.each k no_name (omega (arith, len, s.len)) in
        let h = done w.0 no_name w.1 in (
          subst (λ n. get_or ranks n 0 < length known) w.2 h.0,
          ap (λ n. name_at known (get_or ranks n 0)) (sym w.2) ∙ h.1 ∙ (s.are w.0 no_name w.1).1 ∙ ap (name_at names) w.2,
        )

abbrev pub name_cmp : NameAt → NameAt → Ordering
name_cmp a b = ordering_then (slice_cmp nat_cmp a.0.now b.0.now) (nat_cmp a.1 b.1)

first_not_less : (o p : Ordering) → is_lt (ordering_then o p) ≡ false → is_lt o ≡ false
first_not_less Less p h = h
first_not_less Equal p h = refl
first_not_less Greater p h = refl

-- told names that were sorted
module _ (names : List (List ℕ)) (told sorted : List NameAt) (placed : map placed_name told ≡ enumerate_from 0 names) (perm : IsPermutation told sorted) where
  count : length told ≡ length names
  count = sym (length-map told placed_name) ∙ ap length placed ∙ length-enumerate_from 0 names

  told_at : (k : ℕ) (d : NameAt) → k < length told → placed_name (get_or told k d) ≡ (k, name_at names k)
  told_at k d lk =
      sym (get_or-map placed_name told k d (placed_name d) lk) ∙ ap (λ es. get_or es k (placed_name d)) placed ∙ get_or-enumerate_from 0 names k (placed_name d) (omega (arith, count))
      ∙ (λ i. (plus i, get_or_default names k (placed_name d).1 [] (omega (arith, count)) i))
    where
      plus : 0 + k ≡ k
      plus = omega arith

  pub names_sorted : ((k : ℕ) (d : NameAt) → 0 ≤ k → k + 1 < length sorted → is_lt (name_cmp (get_or sorted (k + 1) d) (get_or sorted k d)) ≡ false) → AreSorted names sorted
  names_sorted up = record {
    len = length_permutation told sorted perm ∙ count;
    are = λ i d lt.
        let e = get_or sorted i d in
        let there = Contains-permutation sorted told e (IsPermutation-sym told sorted perm) (i, lt, get_or_default sorted i e d lt) in
        let is : placed_name e ≡ (there.0, name_at names there.0) = ap placed_name (sym there.2) ∙ told_at there.0 e there.1 in
        let place : e.1 ≡ there.0 = ap (λ (x : ℕ × List ℕ). x.0) is in
        (omega (arith, there.1, count), ap (λ (x : ℕ × List ℕ). x.1) is ∙ ap (name_at names) (sym place));
    each = λ k d lk.
        let inside : k < length told = omega (arith, count) in
        let e = get_or told k d in
        let moved = Contains-permutation told sorted e perm (k, inside, get_or_default told k e d inside) in
        (moved.0, moved.1, ap (λ (x : NameAt). x.1) (get_or_default sorted moved.0 d e moved.1 ∙ moved.2) ∙ ap (λ (x : ℕ × List ℕ). x.0) (told_at k d inside));
    ordered = λ i d lt. first_not_less _ _ (up i d (omega arith) lt);
  }

pub all_told-push : (lists : List ListState) (i : ℕ) (list : ListState) → i < length lists → list ≡ get_or lists i list → all_told (take i lists) ++ list.told ≡ all_told (take (i + 1) lists)
all_told-push lists i list lt is =
    flat_map_more (λ (l : ListState). l.told) [] (take i lists) list ∙ ap (λ (l : ListState). all_told (take i lists ++ l ∷ [])) is ∙ ap all_told (sym (take_more lists i list lt))
