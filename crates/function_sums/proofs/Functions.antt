-- the table of the functions, from what was counted
use Rattle.std.proofs.Common.{◌≡◌, ℕ, ◌+◌, ◌<◌, ◌≤◌, ◌↔◌, Bool, false, List, [], ◌∷◌, length, map, get_or, refl, sym, ap, subst, ◌∙◌, arith, All, Contains, IsPermutation, is_lt, ⊎_elim}
use Rattle.std.specs.List.{list_any, IsDistinct}
use Rattle.std.specs.List.Sorted.{IsStrictlySortedBy}
use Rattle.std.specs.Str.{bytes_eq}
use Rattle.std.specs.Cmp.{IsTotalOrder}
use Rattle.std.specs.Ordering.{nat_cmp, ordering_then, ordering_reverse}
use Rattle.std.specs.Cmp.Lexicographic.{slice_cmp}
use Rattle.std.specs.FinMap.{slice_cmp-IsAntisymmetric, nat_cmp-IsAntisymmetric}
use Rattle.std.specs.declared.cmp.Ordering.{Ordering}
use Rattle.std.specs.declared.cmp.Ordering.TheVariants.{Less, Equal, Greater}
use Rattle.std.proofs.lemmas.Bool.{cases_Bool, false_from_ne_true, ltb-true, true≢false}
use Rattle.std.proofs.lemmas.Bool.Decides.{same_from_decides}
use Rattle.std.proofs.lemmas.Cmp.{nat_cmp_total, nat_list_cmp_total, then_total, on_total, back_total}
use Rattle.std.proofs.lemmas.Slice.Eq.{bytes_eq-Decides}
use Rattle.std.proofs.lemmas.List.{length-map, get_or-map, get_or_default}
use Rattle.std.proofs.lemmas.List.Elements.{All-map}
use Rattle.std.proofs.lemmas.List.Sorted.{IsPermutation-map, IsPermutation-sym, All-permutation, Contains-permutation}
use Rattle.std.proofs.lemmas.Map.Keys.{IsDistinct-IsPermutation, IsDistinct-from_apart, apart_from_distinct, sorted_from_all_adjacent}
use Rattle.std.proofs.lemmas.Map.Views.{Contains-from_any}
use Rattle.sample_tables.specs.declared.samples.Sample.{Sample}
use Rattle.sample_tables.specs.Rows.{name_at}
use Rattle.merged_stacks.specs.Order.{AreRising}
use Rattle.merged_stacks.proofs.JoinedStacks.{names_distinct}
use Rattle.function_sums.specs.Tables.{IsTable}
use Rattle.function_sums.specs.declared.changes.ChangeOrder.{ChangeOrder}
use Rattle.function_sums.specs.declared.changes.FunctionChange.{FunctionChange}
use Rattle.function_sums.specs.declared.sums.FunctionSum.{FunctionSum}
use Rattle.run_options.specs.declared.orders.FunctionOrder.{FunctionOrder as Order}
use Rattle.function_sums.specs.FunctionChanges.{size_of, change_cmp}
use Rattle.function_sums.specs.FunctionSums.{own_of, total_of, weight_of, sum_cmp}
use Rattle.function_sums.specs.checked.Counted.{has_weight, names_with_weight, sums_by}
use Rattle.function_sums.specs.checked.Rows.{Row, row_sum}
use Rattle.function_sums.proofs.NamesWithWeight.{each_weighs, stays, filter-apart}
use Rattle.function_sums.proofs.OneTable.{told_alike}

abbrev pub row_cmp : Row → Row → Ordering
row_cmp a b = ordering_then (ordering_then (ordering_then (nat_cmp b.0.0 a.0.0) (slice_cmp nat_cmp a.1.now b.1.now)) (nat_cmp a.2 b.2)) (nat_cmp a.3 b.3)

pub sum_total : (by : Order) → IsTotalOrder (sum_cmp by)
sum_total by = then_total (on_total (weight_of by) (back_total nat_cmp_total)) (on_total (λ (sum : FunctionSum). sum.name) nat_list_cmp_total)

pub change_total : (by : ChangeOrder) → IsTotalOrder (change_cmp by)
change_total by = then_total (on_total (size_of by) (back_total nat_cmp_total)) (on_total (λ (change : FunctionChange). change.name) nat_list_cmp_total)

abbrev same : FunctionSum → FunctionSum → Bool
same one other = bytes_eq one.name other.name

same-flips : (one other : FunctionSum) → same one other ≡ same other one
same-flips one other =
    let back = bytes_eq-Decides other.name one.name in
    same_from_decides _ _ (bytes_eq-Decides one.name other.name) ((λ t. sym (back.0 t)), (λ e. back.1 (sym e)))

pub then_equal : (x y : Ordering) → ordering_then x y ≡ Equal → y ≡ Equal
then_equal Less y e = absurd (true≢false (ap is_lt e))
then_equal Equal y e = e
then_equal Greater y e = absurd (true≢false (ap (λ o. is_lt (ordering_reverse o)) e))

-- neighbours of other names that stand in no wrong order stand in order
in_order : (by : Order) (a b : Row) → a.0.0 ≡ weight_of by (row_sum a) → b.0.0 ≡ weight_of by (row_sum b) → bytes_eq a.1.now b.1.now ≡ false → is_lt (row_cmp b a) ≡ false → sum_cmp by (row_sum a) (row_sum b) ≡ Less
in_order by a b ka kb apart up = cases (sum_cmp by (row_sum b) (row_sum a)) refl
  where
    lead : ordering_then (nat_cmp a.0.0 b.0.0) (slice_cmp nat_cmp b.1.now a.1.now) ≡ sum_cmp by (row_sum b) (row_sum a)
    lead = λ i. ordering_then (nat_cmp (ka i) (kb i)) (slice_cmp nat_cmp b.1.now a.1.now)

    cases : (o : Ordering) → sum_cmp by (row_sum b) (row_sum a) ≡ o → sum_cmp by (row_sum a) (row_sum b) ≡ Less
    cases Less e = absurd (true≢false (sym (ap (λ o. is_lt (ordering_then (ordering_then o (nat_cmp b.2 a.2)) (nat_cmp b.3 a.3))) (lead ∙ e)) ∙ up))
    cases Equal e =
        let names : b.1.now ≡ a.1.now = slice_cmp-IsAntisymmetric nat_cmp-IsAntisymmetric b.1.now a.1.now (then_equal (nat_cmp (weight_of by (row_sum a)) (weight_of by (row_sum b))) (slice_cmp nat_cmp b.1.now a.1.now) e) in
        absurd (true≢false (sym ((bytes_eq-Decides a.1.now b.1.now).1 (sym names)) ∙ apart))
    cases Greater e = (sum_total by).antisymm (row_sum a) (row_sum b) ∙ ap ordering_reverse e

names_back : (lasts samples : List Sample) (names : List (List ℕ)) → map (λ (sum : FunctionSum). sum.name) (map (sums_by lasts samples) names) ≡ names
names_back lasts samples [] = refl
names_back lasts samples (name ∷ names) = ap (λ all. name ∷ all) (names_back lasts samples names)

abbrev no_sum : FunctionSum
no_sum = record { name = []; own = 0; total = 0 }

ordered : (by : Order) (sorted : List Row) → IsDistinct same (map row_sum sorted) → All (λ row. row.0.0 ≡ weight_of by (row_sum row)) sorted →
    ((k : ℕ) (d : Row) → 0 ≤ k → k + 1 < length sorted → is_lt (row_cmp (get_or sorted (k + 1) d) (get_or sorted k d)) ≡ false) → (row : Row) → IsStrictlySortedBy (sum_cmp by) (map row_sum sorted)
ordered by sorted apart keys up row =
    sorted_from_all_adjacent (sum_total by) (map row_sum sorted) no_sum (λ k lt.
    let next : k + 1 < length sorted = omega (arith, lt, length-map sorted row_sum) in
    let a = get_or sorted k row in
    let b = get_or sorted (k + 1) row in
    let at : get_or (map row_sum sorted) k no_sum ≡ row_sum a = get_or-map row_sum sorted k row no_sum (omega (arith, next)) in
    let after : get_or (map row_sum sorted) (k + 1) no_sum ≡ row_sum b = get_or-map row_sum sorted (k + 1) row no_sum next in
    let names : bytes_eq a.1.now b.1.now ≡ false = (λ i. same (sym at i) (sym after i)) ∙ apart_from_distinct same (map row_sum sorted) k (k + 1) no_sum apart (omega arith) lt in
    (λ i. sum_cmp by (at i) (after i)) ∙ in_order by a b (keys k row (omega (arith, next))) (keys (k + 1) row next) names (up k row (omega arith) next))

module _ (by : Order) (lasts stacks : List Sample) (names : List (List ℕ)) (rising : AreRising names) (weightless : (name : List ℕ) → list_any (bytes_eq name) names ≡ false → total_of name stacks ≡ 0)
    (rows sorted : List Row) (sums : map row_sum rows ≡ map (sums_by lasts stacks) (names_with_weight stacks names)) (keys : All (λ row. row.0.0 ≡ weight_of by (row_sum row)) rows) (perm : IsPermutation rows sorted)
    (up : (k : ℕ) (d : Row) → 0 ≤ k → k + 1 < length sorted → is_lt (row_cmp (get_or sorted (k + 1) d) (get_or sorted k d)) ≡ false) where
  abbrev kept : List (List ℕ)
  kept = names_with_weight stacks names

  moved : IsPermutation (map (sums_by lasts stacks) kept) (map row_sum sorted)
  moved = subst (λ (all : List FunctionSum). IsPermutation all (map row_sum sorted)) sums (IsPermutation-map row_sum rows sorted perm)

  named : IsPermutation kept (map (λ (sum : FunctionSum). sum.name) (map row_sum sorted))
  named = subst (λ (all : List (List ℕ)). IsPermutation all (map (λ (sum : FunctionSum). sum.name) (map row_sum sorted))) (names_back lasts stacks kept) (IsPermutation-map (λ (sum : FunctionSum). sum.name) _ _ moved)

  once : IsDistinct same (map (sums_by lasts stacks) kept)
  once = filter-apart same (sums_by lasts stacks) (has_weight stacks) names (IsDistinct-from_apart same (map (sums_by lasts stacks) names) (λ i j d below within.
      let long = length-map names (sums_by lasts stacks) in
      let one = get_or-map (sums_by lasts stacks) names i [] d (omega (arith, below, within, long)) in
      let other = get_or-map (sums_by lasts stacks) names j [] d (omega (arith, within, long)) in
      (λ k. same (one k) (other k)) ∙ false_from_ne_true _ (λ hit. absurd (omega (arith, below, names_distinct names rising i j (omega (arith, below, within, long)) (omega (arith, within, long)) ((bytes_eq-Decides (name_at names i) (name_at names j)).0 hit))))))

  in_table : (name : List ℕ) → Contains (map (λ (sum : FunctionSum). sum.name) (map row_sum sorted)) name ↔ (0 < total_of name stacks)
  in_table name = (weighs, stands)
    where
      weighs : Contains (map (λ (sum : FunctionSum). sum.name) (map row_sum sorted)) name → 0 < total_of name stacks
      weighs there =
          let at = Contains-permutation (map (λ (sum : FunctionSum). sum.name) (map row_sum sorted)) kept name (IsPermutation-sym kept _ named) there in
          subst (λ one. 0 < total_of one stacks) (get_or_default kept at.0 [] name at.1 ∙ at.2) (ltb-true 0 (total_of (name_at kept at.0) stacks) (each_weighs stacks names at.0 [] at.1))

      stands : 0 < total_of name stacks → Contains (map (λ (sum : FunctionSum). sum.name) (map row_sum sorted)) name
      stands weight =
          ⊎_elim (λ hit. Contains-permutation kept _ name named (Contains-from_any (λ x y t. (bytes_eq-Decides x y).0 t) name kept (stays stacks name names weight hit)))
          (λ miss. absurd (omega (arith, weight, weightless name miss))) (cases_Bool (list_any (bytes_eq name) names))

  in_rows : (xs : List Row) → sorted ≡ xs → IsStrictlySortedBy (sum_cmp by) (map row_sum sorted)
  in_rows [] e = sorted_from_all_adjacent (sum_total by) (map row_sum sorted) no_sum (λ k lt. absurd (omega (arith, lt, length-map sorted row_sum, ap length e)))
  in_rows (row ∷ rest) e = ordered by sorted (IsDistinct-IsPermutation same same-flips (map (sums_by lasts stacks) kept) (map row_sum sorted) moved once) (All-permutation (λ (one : Row). one.0.0 ≡ weight_of by (row_sum one)) rows sorted perm keys) up row

  table_of_stacks : IsTable (sum_cmp by) (λ sum. sum.name) (sums_by lasts stacks) (λ name. total_of name stacks) (map row_sum sorted)
  table_of_stacks = record {
    each = All-permutation (λ (sum : FunctionSum). sum ≡ sums_by lasts stacks sum.name) (map (sums_by lasts stacks) kept) (map row_sum sorted) moved (All-map (λ (sum : FunctionSum). sum ≡ sums_by lasts stacks sum.name) (sums_by lasts stacks) kept (λ k d lt. refl));
    all = in_table;
    ordered = in_rows sorted refl;
  }

  -- and so it is the table of all samples with the same sums
  pub table_of : (endings samples : List Sample) → ((name : List ℕ) → own_of name endings ≡ own_of name lasts) → ((name : List ℕ) → total_of name samples ≡ total_of name stacks)
      → IsTable (sum_cmp by) (λ sum. sum.name) (sums_by endings samples) (λ name. total_of name samples) (map row_sum sorted)
  table_of endings samples own_is total_is =
      told_alike (sum_cmp by) (λ (sum : FunctionSum). sum.name) (sums_by lasts stacks) (sums_by endings samples) (λ name. total_of name stacks) (λ name. total_of name samples) (map row_sum sorted)
      (λ name i. record { name = name; own = sym (own_is name) i; total = sym (total_is name) i }) (λ name. sym (total_is name)) table_of_stacks
