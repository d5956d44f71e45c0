-- The merged rows of some samples: they are in order, they have each stack's positive sum, and no other rows do.
use Rattle.std.proofs.Common.{◌≡◌, ℕ, ◌+◌, ◌<◌, List, [], ◌∷◌, ◌++◌, Bool, true, false, cond, ◌&&◌, ltb, map, filter, Some, None, refl, sym, ap, ◌∙◌, subst, arith, T}
use Rattle.std.specs.Prelude.{unwrap_or}
use Rattle.std.specs.declared.cmp.Ordering.{Ordering}
use Rattle.std.specs.declared.cmp.Ordering.TheVariants.{Less, Equal, Greater}
use Rattle.std.specs.Ordering.{is_eq, is_lt, match_ordering}
use Rattle.std.specs.Cmp.{IsTotalOrder}
use Rattle.std.specs.BTreeSet.{insert_key}
use Rattle.std.specs.FinMap.{IsAntisymmetric, slice_cmp-IsAntisymmetric, nat_cmp-IsAntisymmetric}
use Rattle.std.specs.FinMap.Entries.{find, put, by_order, is_sorted, where_key, below_all, same_entries, find-put, is_sorted-put, find-where_key, is_sorted-where_key}
use Rattle.std.proofs.lemmas.Cmp.{lists_total, nat_list_cmp_total, tied_itself}
use Rattle.std.proofs.lemmas.Bool.{lt-ltb}
use Rattle.std.proofs.lemmas.Bool.Decides.{nat_tests}
use Rattle.std.proofs.lemmas.List.Sums.{sum_by-append}
use Rattle.merged_stacks.specs.Order.{stack_cmp}
use Rattle.merged_stacks.specs.Timeline.{Stack}
use Rattle.merged_stacks.specs.Merged.{Weighed, sum_at, stacks_of, merged, are_in_order, weight_at, if_positive}

pub stack_cmp_total : IsTotalOrder stack_cmp
stack_cmp_total = lists_total nat_list_cmp_total

pub stack_cmp_exact : IsAntisymmetric stack_cmp
stack_cmp_exact = slice_cmp-IsAntisymmetric (slice_cmp-IsAntisymmetric nat_cmp-IsAntisymmetric)

-- what a sample adds at a stack
abbrev share : Stack → Weighed → ℕ
share q s = cond (is_eq (stack_cmp q s.0)) s.1 0

pub sum_at-append : (xs ys : List Weighed) (q : Stack) → sum_at (xs ++ ys) q ≡ sum_at xs q + sum_at ys q
unfolding sum_at
sum_at-append xs ys q = sum_by-append (share q) xs ys

pub sum_at-one : (s : Weighed) (q : Stack) → sum_at (s ∷ []) q ≡ cond (is_eq (stack_cmp q s.0)) s.1 0
unfolding sum_at
sum_at-one s q = omega arith

-- a sample has its whole weight at its stack
pub sum_at-itself : (s : Weighed) → sum_at (s ∷ []) s.0 ≡ s.1
sum_at-itself s = sum_at-one s s.0 ∙ ap (λ o. cond (is_eq o) s.1 0) (tied_itself stack_cmp_total s.0)

pub sum_at-cons : (s : Weighed) (xs : List Weighed) (q : Stack) → sum_at (s ∷ xs) q ≡ cond (is_eq (stack_cmp q s.0)) s.1 0 + sum_at xs q
sum_at-cons s xs q = sum_at-append (s ∷ []) xs q ∙ ap (λ n. n + sum_at xs q) (sum_at-one s q)

pub sum_at-nil : (q : Stack) → sum_at [] q ≡ 0
unfolding sum_at
sum_at-nil q = refl

pub is_true : (b : Bool) → T b → b ≡ true
is_true true p = refl
is_true false p = absurd p

pub as_true : (b : Bool) → b ≡ true → T b
as_true b e = subst T (sym e) tt

pub first : (a b : Bool) → T (a && b) → T a
first true b p = tt
first false b p = p

pub second : (a b : Bool) → T (a && b) → T b
second true b p = p
second false b p = absurd p

unwrap-if_positive : (n : ℕ) → unwrap_or (if_positive n) 0 ≡ n
unwrap-if_positive n = grind (arith, nat_tests)

less_from : (o : Ordering) → T (is_lt o) → o ≡ Less
less_from Less h = refl
less_from Equal h = absurd h
less_from Greater h = absurd h

if_positive-some : (n : ℕ) → 0 < n → if_positive n ≡ Some n
if_positive-some n some = ap (λ b. cond b (Some n) None) (lt-ltb 0 n some)

cond_same : (b : Bool) → cond {A = ℕ} b 0 0 ≡ 0
cond_same true = refl
cond_same false = refl

-- ---- the rows of a function on stacks

abbrev row_of : (Stack → ℕ) → Stack → Weighed
row_of f stack = (stack, f stack)

rows-insert : (f : Stack → ℕ) (k : Stack) (ks : List Stack) → map (row_of f) (insert_key stack_cmp ks k) ≡ put stack_cmp k (f k) (map (row_of f) ks)
rows-insert f k [] = refl
rows-insert f k (x ∷ ks) =
    elim (stack_cmp k x) as (λ o. stack_cmp k x ≡ o → map (row_of f) (match_ordering o (k ∷ x ∷ ks) (x ∷ ks) (x ∷ insert_key stack_cmp ks k)) ≡ by_order o ((k, f k) ∷ row_of f x ∷ map (row_of f) ks) ((x, f k) ∷ map (row_of f) ks) (row_of f x ∷ put stack_cmp k (f k) (map (row_of f) ks))) [
      | Less ↦ λ e. refl
      | Equal ↦ λ e. ap (λ y. (x, f y) ∷ map (row_of f) ks) (sym (stack_cmp_exact k x e))
      | Greater ↦ λ e. ap (λ rows. row_of f x ∷ rows) (rows-insert f k ks)
    ] refl

-- the rows of a function, one for each stack of the samples
abbrev rows_by : (Stack → ℕ) → List Weighed → List Weighed
rows_by f samples = map (row_of f) (stacks_of samples)

rows_by-cons : (f : Stack → ℕ) (s : Weighed) (xs : List Weighed) → rows_by f (s ∷ xs) ≡ put stack_cmp s.0 (f s.0) (rows_by f xs)
unfolding stacks_of
rows_by-cons f s xs = rows-insert f s.0 (stacks_of xs)

rows_by-nil : (f : Stack → ℕ) → rows_by f [] ≡ []
unfolding stacks_of
rows_by-nil f = refl

rows_by-in_order : (f : Stack → ℕ) (xs : List Weighed) → T (is_sorted stack_cmp (rows_by f xs))
rows_by-in_order f [] = subst (λ rows. T (is_sorted stack_cmp rows)) (sym (rows_by-nil f)) tt
rows_by-in_order f (s ∷ xs) =
    subst (λ rows. T (is_sorted stack_cmp rows)) (sym (rows_by-cons f s xs)) (is_sorted-put stack_cmp stack_cmp_total s.0 (f s.0) _ (rows_by-in_order f xs))

-- whether a stack is one of the samples'
occurs : List Weighed → Stack → Bool
occurs [] q = false
occurs (s ∷ xs) q = cond (is_eq (stack_cmp q s.0)) true (occurs xs q)

rows_by-find : (f : Stack → ℕ) (xs : List Weighed) (q : Stack) → find stack_cmp q (rows_by f xs) ≡ cond (occurs xs q) (Some (f q)) None
unfolding occurs
rows_by-find f [] q = ap (find stack_cmp q) (rows_by-nil f)
rows_by-find f (s ∷ xs) q =
    ap (find stack_cmp q) (rows_by-cons f s xs) ∙ find-put stack_cmp stack_cmp_total q s.0 (f s.0) (rows_by f xs)
    ∙ elim (stack_cmp q s.0) as (λ o. stack_cmp q s.0 ≡ o → cond (is_eq o) (Some (f s.0)) (find stack_cmp q (rows_by f xs)) ≡ cond (cond (is_eq o) true (occurs xs q)) (Some (f q)) None) [
      | Less ↦ λ e. rows_by-find f xs q
      | Equal ↦ λ e. ap (λ y. Some (f y)) (sym (stack_cmp_exact q s.0 e))
      | Greater ↦ λ e. rows_by-find f xs q
    ] refl

sum_at-absent : (xs : List Weighed) (q : Stack) → occurs xs q ≡ false → sum_at xs q ≡ 0
unfolding occurs
sum_at-absent [] q e = sum_at-nil q
sum_at-absent (s ∷ xs) q e =
    sum_at-cons s xs q
    ∙ elim (is_eq (stack_cmp q s.0)) as (λ b. cond b true (occurs xs q) ≡ false → cond b s.1 0 + sum_at xs q ≡ 0) [
      | true ↦ λ h. cc
      | false ↦ λ h. let rest = sum_at-absent xs q h in omega arith
    ] e

-- ---- the merged rows

-- to test a row's sum is to test its stack
filter-rows : (f : Stack → ℕ) (ks : List Stack) → filter (λ row. ltb 0 row.1) (map (row_of f) ks) ≡ where_key stack_cmp (λ k. ltb 0 (f k)) (map (row_of f) ks)
filter-rows f [] = refl
filter-rows f (k ∷ ks) =
    elim (ltb 0 (f k)) as (λ b. cond b (row_of f k ∷ filter (λ row. ltb 0 row.1) (map (row_of f) ks)) (filter (λ row. ltb 0 row.1) (map (row_of f) ks)) ≡ cond b (row_of f k ∷ where_key stack_cmp (λ k. ltb 0 (f k)) (map (row_of f) ks)) (where_key stack_cmp (λ k. ltb 0 (f k)) (map (row_of f) ks))) [
      | true ↦ ap (λ rows. row_of f k ∷ rows) (filter-rows f ks)
      | false ↦ filter-rows f ks
    ]

merged-where : (xs : List Weighed) → merged xs ≡ where_key stack_cmp (λ k. ltb 0 (sum_at xs k)) (rows_by (sum_at xs) xs)
unfolding merged
merged-where xs = filter-rows (sum_at xs) (stacks_of xs)

pub merged-in_order : (xs : List Weighed) → T (are_in_order (merged xs))
merged-in_order xs =
    subst (λ rows. T (is_sorted stack_cmp rows)) (sym (merged-where xs)) (is_sorted-where_key {X = ℕ} stack_cmp (λ k. ltb 0 (sum_at xs k)) (rows_by (sum_at xs) xs) (rows_by-in_order (sum_at xs) xs))

pub merged-weight_at : (xs : List Weighed) (q : Stack) → weight_at (merged xs) q ≡ if_positive (sum_at xs q)
merged-weight_at xs q =
    ap (find stack_cmp q) (merged-where xs)
    ∙ find-where_key stack_cmp (λ k. ltb 0 (sum_at xs k)) q (λ x e. ap (λ k. ltb 0 (sum_at xs k)) (sym (stack_cmp_exact q x e))) (rows_by (sum_at xs) xs)
    ∙ ap (λ o. cond (ltb 0 (sum_at xs q)) o None) (rows_by-find (sum_at xs) xs q)
    ∙ elim (occurs xs q) as (λ b. occurs xs q ≡ b → cond (ltb 0 (sum_at xs q)) (cond b (Some (sum_at xs q)) None) None ≡ if_positive (sum_at xs q)) [
      | true ↦ λ e. refl
      | false ↦ λ e. ap (λ n. cond (ltb 0 n) None None) (sum_at-absent xs q e) ∙ sym (ap if_positive (sum_at-absent xs q e))
    ] refl

-- rows in order with these sums are the merged rows
pub merged-only : (xs rows : List Weighed) → T (are_in_order rows) → ((q : Stack) → weight_at rows q ≡ if_positive (sum_at xs q)) → rows ≡ merged xs
merged-only xs rows ordered sums =
    same_entries stack_cmp stack_cmp_total stack_cmp_exact rows (merged xs) ordered (merged-in_order xs) (λ q. sums q ∙ sym (merged-weight_at xs q))

-- samples that have the same sums have the same rows
pub merged-same : (xs ys : List Weighed) → ((q : Stack) → sum_at xs q ≡ sum_at ys q) → merged xs ≡ merged ys
merged-same xs ys same = merged-only ys (merged xs) (merged-in_order xs) (λ q. merged-weight_at xs q ∙ ap if_positive (same q))

-- ---- rows as samples

below_sum : (q : Stack) (rows : List Weighed) → T (below_all stack_cmp q rows) → sum_at rows q ≡ 0
below_sum q [] h = sum_at-nil q
below_sum q (row ∷ rows) h =
    sum_at-cons row rows q
    ∙ elim (stack_cmp q row.0) as (λ o. T (is_lt o && below_all stack_cmp q rows) → cond (is_eq o) row.1 0 + sum_at rows q ≡ 0) [
      | Less ↦ λ g. let rest = below_sum q rows g in omega arith
      | Equal ↦ λ g. absurd g
      | Greater ↦ λ g. absurd g
    ] h

-- in rows in order a stack's sum is the weight that they have there
pub sum_at-rows : (rows : List Weighed) (q : Stack) → T (are_in_order rows) → sum_at rows q ≡ unwrap_or (weight_at rows q) 0
sum_at-rows [] q h = sum_at-nil q
sum_at-rows (row ∷ rows) q h =
    sum_at-cons row rows q
    ∙ elim (stack_cmp q row.0) as (λ o. stack_cmp q row.0 ≡ o → cond (is_eq o) row.1 0 + sum_at rows q ≡ unwrap_or (cond (is_eq o) (Some row.1) (find stack_cmp q rows)) 0) [
      | Less ↦ λ e. let rest = sum_at-rows rows q (second (below_all stack_cmp row.0 rows) (is_sorted stack_cmp rows) h) in omega arith
      | Equal ↦ λ e. let rest = below_sum q rows (subst (λ k. T (below_all stack_cmp k rows)) (sym (stack_cmp_exact q row.0 e)) (first (below_all stack_cmp row.0 rows) (is_sorted stack_cmp rows) h)) in omega arith
      | Greater ↦ λ e. let rest = sum_at-rows rows q (second (below_all stack_cmp row.0 rows) (is_sorted stack_cmp rows) h) in omega arith
    ] refl

pub sum_at-merged : (xs : List Weighed) (q : Stack) → sum_at (merged xs) q ≡ sum_at xs q
sum_at-merged xs q =
    sum_at-rows (merged xs) q (merged-in_order xs) ∙ ap (λ o. unwrap_or o 0) (merged-weight_at xs q) ∙ unwrap-if_positive (sum_at xs q)

-- merging goes on from merged rows
pub merged-append : (xs ys : List Weighed) → merged (merged xs ++ ys) ≡ merged (xs ++ ys)
merged-append xs ys =
    merged-same _ _ (λ q. sum_at-append (merged xs) ys q ∙ ap (λ n. n + sum_at ys q) (sum_at-merged xs q) ∙ sym (sum_at-append xs ys q))
