-- What adding a weight does to a tree's sums.
use Rattle.std.specs.FinMap as map
use Rattle.std.specs.FinMap.{same_map, get-insert, get-empty, get-entries, entries-insert, entries_sorted, slice_cmp-IsAntisymmetric, nat_cmp-IsAntisymmetric}
use Rattle.std.proofs.Common.{◌≡◌, ℕ, ◌+◌, Bool, true, false, cond, ◌&&◌, T, List, [], ◌∷◌, ◌==◌, length, nat_eq, Option, None, Some, refl, sym, ap, ◌∙◌, arith, if◌then◌else◌}
use Rattle.std.specs.List.{fold, sum_by}
use Rattle.std.specs.Option.{unwrap_or}
use Rattle.std.specs.Ordering.{nat_cmp, is_eq, is_lt}
use Rattle.std.specs.FinMap.Entries.{put, find, below_all, is_sorted, by_order}
use Rattle.std.specs.declared.cmp.Ordering.{Ordering}
use Rattle.std.specs.declared.cmp.Ordering.TheVariants.{Less, Equal, Greater}
use Rattle.std.specs.Cmp.{IsTotalOrder}
use Rattle.std.specs.Cmp.Lexicographic.{slice_cmp, pointwise, nat_list_cmp_total}
use Rattle.std.proofs.lemmas.Map.Text.{is_eq-slice_cmp}
use Rattle.std.proofs.lemmas.List.Sums.{sum_by-cons}
use Rattle.std.proofs.lemmas.Slice.Eq.{bytes_eq-Decides}
use borrow.Author.Tests.{eqb-true, eqb-false}
use Rattle.call_tree.specs.PathSums.{begins_with, total_of, own_of}
use Rattle.call_tree.specs.CallTree.{Tree, own_weight, total_weight, with_weight, tree_of}

module _ {A : Type 0} (eq : A → A → Bool) (s : List A × ℕ) (samples : List (List A × ℕ)) (path : List A) where
  pub total_of-cons : total_of eq (s ∷ samples) path ≡ (if begins_with eq path s.0 then s.1 else 0) + total_of eq samples path
  unfolding total_of
  total_of-cons = sum_by-cons (λ t. if begins_with eq path t.0 then t.1 else 0) s samples

  pub own_of-cons : own_of eq (s ∷ samples) path ≡ (if pointwise eq path s.0 then s.1 else 0) + own_of eq samples path
  unfolding own_of
  own_of-cons = sum_by-cons (λ t. if pointwise eq path t.0 then t.1 else 0) s samples

-- the number that a look-up gives, where the weights are positive
abbrev pub as_found : ℕ → Option ℕ
as_found n = if n == 0 then None else Some n

pub record IsPositive (tree : Tree) : Type 0 where
  pub found : (q : List ℕ) → map.get tree q ≡ as_found (own_weight tree q)

pub IsPositive-empty : IsPositive map.empty
IsPositive-empty = record { found = λ q. get-empty (slice_cmp nat_cmp) q ∙ ap (λ (o : Option ℕ). as_found (unwrap_or o 0)) (sym (get-empty (slice_cmp nat_cmp) q)) }

path_order : IsTotalOrder (slice_cmp nat_cmp)
path_order = nat_list_cmp_total

-- a look-up after an insert
get_inserted : (tree : Tree) (path : List ℕ) (v : ℕ) (q : List ℕ) → map.get (map.insert tree path v) q ≡ cond (pointwise nat_eq q path) (Some v) (map.get tree q)
get_inserted tree path v q = get-insert path_order tree path v q ∙ ap (λ b. cond b (Some v) (map.get tree q)) (is_eq-slice_cmp q path)

same_path : (q path : List ℕ) → pointwise nat_eq q path ≡ true → q ≡ path
same_path q path = (bytes_eq-Decides q path).0

zero_or_not : (w : ℕ) (P : Bool → Type 0) → (w ≡ 0 → P true) → ((w == 0) ≡ false → P false) → P (w == 0)
zero_or_not w P z n = elim (w == 0) as (λ b. (w == 0) ≡ b → P b) [ true ↦ λ e. z (eqb-true w 0 e) | false ↦ λ e. n e ] refl

own_cases : (tree : Tree) (path : List ℕ) (w : ℕ) (q : List ℕ) (b : Bool) → pointwise nat_eq q path ≡ b
    → unwrap_or (cond b (Some (own_weight tree path + w)) (map.get tree q)) 0 ≡ own_weight tree q + (if b then w else 0)
own_cases tree path w q true e = ap (λ p. own_weight tree p + w) (sym (same_path q path e))
own_cases tree path w q false e = omega arith

pub own_weight-with_weight : (tree : Tree) (path : List ℕ) (w : ℕ) (q : List ℕ)
    → own_weight (with_weight tree path w) q ≡ own_weight tree q + (if pointwise nat_eq q path then w else 0)
unfolding with_weight
own_weight-with_weight tree path w q =
    zero_or_not w (λ b. own_weight (if b then tree else map.insert tree path (own_weight tree path + w)) q ≡ own_weight tree q + (if pointwise nat_eq q path then w else 0))
    (λ z. elim (pointwise nat_eq q path) as (λ b. own_weight tree q ≡ own_weight tree q + (if b then w else 0)) [ true ↦ omega arith | false ↦ omega arith ])
    (λ _. ap (λ (o : Option ℕ). unwrap_or o 0) (get_inserted tree path (own_weight tree path + w) q) ∙ own_cases tree path w q (pointwise nat_eq q path) refl)

found_cases : (tree : Tree) (path : List ℕ) (w : ℕ) (q : List ℕ) (b : Bool) → (w == 0) ≡ false → IsPositive tree
    → cond b (Some (own_weight tree path + w)) (map.get tree q) ≡ as_found (unwrap_or (cond b (Some (own_weight tree path + w)) (map.get tree q)) 0)
found_cases tree path w q true n t = ap (λ (b : Bool). if b then None else Some (own_weight tree path + w)) (sym more)
  where
    more : ((own_weight tree path + w) == 0) ≡ false
    more = grind (arith, eqb-false w 0 n)
found_cases tree path w q false n t = t.found q

pub IsPositive-with_weight : (tree : Tree) (path : List ℕ) (w : ℕ) → IsPositive tree → IsPositive (with_weight tree path w)
unfolding with_weight
IsPositive-with_weight tree path w t =
    zero_or_not w (λ b. IsPositive (if b then tree else map.insert tree path (own_weight tree path + w)))
    (λ _. t)
    (λ n. record {
      found = λ q.
          get_inserted tree path (own_weight tree path + w) q ∙ found_cases tree path w q (pointwise nat_eq q path) n t
          ∙ ap (λ (o : Option ℕ). as_found (unwrap_or o 0)) (sym (get_inserted tree path (own_weight tree path + w) q));
    })

-- two trees of the same own weights are one
pub same_tree : (t u : Tree) → IsPositive t → IsPositive u → ((q : List ℕ) → own_weight t q ≡ own_weight u q) → t ≡ u
same_tree t u pt pu same =
    same_map path_order (slice_cmp-IsAntisymmetric nat_cmp-IsAntisymmetric) t u (λ q. pt.found q ∙ ap as_found (same q) ∙ sym (pu.found q))

first : (a b : Bool) → T (a && b) → T a
first true b p = tt
first false b p = p

second : (a b : Bool) → T (a && b) → T b
second true b p = p
second false b p = absurd p

is_less : (o : Ordering) → T (is_lt o) → o ≡ Less
is_less Less p = refl
is_less Equal p = absurd p
is_less Greater p = absurd p

-- a key below the first of a list in order is not found in it
find_below : (k x : List ℕ) (es : List (List ℕ × ℕ)) → slice_cmp nat_cmp k x ≡ Less → T (below_all (slice_cmp nat_cmp) x es) → find (slice_cmp nat_cmp) k es ≡ None
find_below k x [] less below = refl
find_below k x (e ∷ es) less below =
    let here : slice_cmp nat_cmp k e.0 ≡ Less = path_order.trans k x e.0 less (is_less _ (first _ _ below)) in
    ap (λ r. cond (is_eq r) (Some e.1) (find (slice_cmp nat_cmp) k es)) here ∙ find_below k x es less (second _ _ below)

module _ (test : List ℕ → Bool) where
  abbrev weight_if : List ℕ × ℕ → ℕ
  weight_if e = if test e.0 then e.1 else 0

  split_weight : (b : Bool) (v w : ℕ) → (if b then v + w else 0) ≡ (if b then v else 0) + (if b then w else 0)
  split_weight true v w = refl
  split_weight false v w = refl

  -- where w more is put at k, the sum over the keys that pass has w more if k passes
  sum_put : (k : List ℕ) (v w : ℕ) (es : List (List ℕ × ℕ)) → T (is_sorted (slice_cmp nat_cmp) es) → v ≡ unwrap_or (find (slice_cmp nat_cmp) k es) 0 + w
      → sum_by weight_if (put (slice_cmp nat_cmp) k v es) ≡ sum_by weight_if es + (if test k then w else 0)
  sum_put k v w [] sorted is = sum_by-cons weight_if (k, v) [] ∙ (λ i. (if test k then e i else 0) + 0) ∙ omega arith
    where
      e : v ≡ w
      e = omega arith
  sum_put k v w (e ∷ es) sorted is =
      elim (slice_cmp nat_cmp k e.0) as (λ r. slice_cmp nat_cmp k e.0 ≡ r → v ≡ unwrap_or (cond (is_eq r) (Some e.1) (find (slice_cmp nat_cmp) k es)) 0 + w
      → sum_by weight_if (by_order r ((k, v) ∷ e ∷ es) ((e.0, v) ∷ es) (e ∷ put (slice_cmp nat_cmp) k v es)) ≡ sum_by weight_if (e ∷ es) + (if test k then w else 0)) [
        | Less ↦ λ p h. less p h
        | Equal ↦ λ p h. tied p h
        | Greater ↦ λ p h. greater h (sum_put k v w es (second _ _ sorted) h)
      ] refl is
    where
      less : slice_cmp nat_cmp k e.0 ≡ Less → v ≡ unwrap_or (find (slice_cmp nat_cmp) k es) 0 + w → sum_by weight_if ((k, v) ∷ e ∷ es) ≡ sum_by weight_if (e ∷ es) + (if test k then w else 0)
      less p h =
          let none : unwrap_or (find (slice_cmp nat_cmp) k es) 0 ≡ 0 = ap (λ (o : Option ℕ). unwrap_or o 0) (find_below k e.0 es p (first _ _ sorted)) in
          let same : v ≡ w = omega arith in
          sum_by-cons weight_if (k, v) (e ∷ es) ∙ ap (λ n. (if test k then n else 0) + sum_by weight_if (e ∷ es)) same ∙ omega arith

      tied : slice_cmp nat_cmp k e.0 ≡ Equal → v ≡ e.1 + w → sum_by weight_if ((e.0, v) ∷ es) ≡ sum_by weight_if (e ∷ es) + (if test k then w else 0)
      tied p h =
          let key : k ≡ e.0 = slice_cmp-IsAntisymmetric nat_cmp-IsAntisymmetric k e.0 p in
          sum_by-cons weight_if (e.0, v) es ∙ ap (λ n. (if test e.0 then n else 0) + sum_by weight_if es) h
          ∙ ap (λ n. n + sum_by weight_if es) (split_weight (test e.0) e.1 w)
          ∙ omega (arith, sum_by-cons weight_if e es)
          ∙ ap (λ q. sum_by weight_if (e ∷ es) + (if test q then w else 0)) (sym key)

      greater : v ≡ unwrap_or (find (slice_cmp nat_cmp) k es) 0 + w
          → sum_by weight_if (put (slice_cmp nat_cmp) k v es) ≡ sum_by weight_if es + (if test k then w else 0)
          → sum_by weight_if (e ∷ put (slice_cmp nat_cmp) k v es) ≡ sum_by weight_if (e ∷ es) + (if test k then w else 0)
      greater h rest = omega (arith, sum_by-cons weight_if e (put (slice_cmp nat_cmp) k v es), sum_by-cons weight_if e es, rest)

pub total_weight-with_weight : (tree : Tree) (path : List ℕ) (w : ℕ) (q : List ℕ)
    → total_weight (with_weight tree path w) q ≡ total_weight tree q + (if begins_with nat_eq q path then w else 0)
unfolding with_weight total_of
total_weight-with_weight tree path w q =
    zero_or_not w (λ b. total_weight (if b then tree else map.insert tree path (own_weight tree path + w)) q ≡ total_weight tree q + (if begins_with nat_eq q path then w else 0))
    (λ z. elim (begins_with nat_eq q path) as (λ b. total_weight tree q ≡ total_weight tree q + (if b then w else 0)) [ true ↦ omega arith | false ↦ omega arith ])
    (λ _. ap (λ es. total_of nat_eq es q) (entries-insert path_order tree path (own_weight tree path + w))
    ∙ sum_put (begins_with nat_eq q) path (own_weight tree path + w) w (map.entries tree) (entries_sorted tree)
    (ap (λ (o : Option ℕ). unwrap_or o 0 + w) (get-entries tree path)))

total_from : (tree : Tree) (samples : List (List ℕ × ℕ)) (q : List ℕ) → total_weight (fold (λ t s. with_weight t s.0 s.1) tree samples) q ≡ total_weight tree q + total_of nat_eq samples q
unfolding total_of
total_from tree [] q = omega arith
total_from tree (s ∷ samples) q =
    omega (arith, total_from (with_weight tree s.0 s.1) samples q, total_weight-with_weight tree s.0 s.1 q, total_of-cons nat_eq s samples q)

own_from : (tree : Tree) (samples : List (List ℕ × ℕ)) (q : List ℕ) → own_weight (fold (λ t s. with_weight t s.0 s.1) tree samples) q ≡ own_weight tree q + own_of nat_eq samples q
unfolding own_of
own_from tree [] q = omega arith
own_from tree (s ∷ samples) q =
    omega (arith, own_from (with_weight tree s.0 s.1) samples q, own_weight-with_weight tree s.0 s.1 q, own_of-cons nat_eq s samples q)

positive_from : (tree : Tree) (samples : List (List ℕ × ℕ)) → IsPositive tree → IsPositive (fold (λ t s. with_weight t s.0 s.1) tree samples)
positive_from tree [] t = t
positive_from tree (s ∷ samples) t = positive_from (with_weight tree s.0 s.1) samples (IsPositive-with_weight tree s.0 s.1 t)

-- what an empty tree's sums are
no_entries : (es : List (List ℕ × ℕ)) (q : List ℕ) → length es ≡ 0 → total_of nat_eq es q ≡ 0
unfolding total_of
no_entries [] q none = refl
no_entries (e ∷ es) q none = absurd (omega arith)

pub total_empty : (q : List ℕ) → total_weight map.empty q ≡ 0
total_empty q = no_entries _ q (sym (map.len-entries map.empty) ∙ map.len-empty (slice_cmp nat_cmp) ℕ)

pub total_weight-tree_of : (samples : List (List ℕ × ℕ)) (q : List ℕ) → total_weight (tree_of samples) q ≡ total_of nat_eq samples q
total_weight-tree_of samples q = omega (arith, total_from map.empty samples q, total_empty q)

pub own_weight-tree_of : (samples : List (List ℕ × ℕ)) (q : List ℕ) → own_weight (tree_of samples) q ≡ own_of nat_eq samples q
own_weight-tree_of samples q = omega (arith, own_from map.empty samples q, ap (λ (o : Option ℕ). unwrap_or o 0) (get-empty {X = ℕ} (slice_cmp nat_cmp) q))

pub IsPositive-tree_of : (samples : List (List ℕ × ℕ)) → IsPositive (tree_of samples)
IsPositive-tree_of samples = positive_from map.empty samples IsPositive-empty

-- samples of the same own sums make one tree
pub tree_of_same : (xs ys : List (List ℕ × ℕ)) → ((q : List ℕ) → own_of nat_eq xs q ≡ own_of nat_eq ys q) → tree_of xs ≡ tree_of ys
tree_of_same xs ys same =
    same_tree _ _ (IsPositive-tree_of xs) (IsPositive-tree_of ys) (λ q. own_weight-tree_of xs q ∙ same q ∙ sym (own_weight-tree_of ys q))
