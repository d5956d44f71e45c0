-- The rows of all names, sorted and each kept once, have the table of the changes.
use Rattle.std.proofs.Common.{◌≡◌, ⊎_elim, ℕ, ◌+◌, ◌<◌, ◌&&◌, Bool, List, [], ◌∷◌, ◌++◌, map, All, Contains, IsPermutation, refl, sym, ap, subst, ◌∙◌, arith}
use Rattle.std.specs.Prelude.{nat_eq}
use Rattle.std.specs.List.{AllByRecursion, dedup}
use Rattle.std.specs.List.Sorted.{IsSorted, IsStrictlySortedBy}
use Rattle.std.specs.Str.{bytes_eq}
use Rattle.std.specs.Cmp.{IsEquivalence, IsTotalOrder, unsigned_ties}
use Rattle.std.specs.Cmp.Lexicographic.{slice_cmp, texts_ties}
use Rattle.std.specs.Ordering.{eq_by_cmp, is_eq, nat_cmp, ordering_then}
use Rattle.std.specs.declared.cmp.Ordering.{Ordering}
use Rattle.std.specs.declared.cmp.Ordering.TheVariants.{Less, Equal, Greater}
use Rattle.std.proofs.lemmas.Bool.{and_parts}
use Rattle.std.proofs.lemmas.Cmp.{and_equiv, back_total, nat_cmp_total, nat_eq_equiv, nat_list_cmp_total, nat_list_eq_equiv, on_equiv, on_total, then_total}
use Rattle.std.proofs.lemmas.List.Elements.{All-map, recursion_from_All}
use Rattle.std.proofs.lemmas.List.Filters.{All-dedup}
use Rattle.std.proofs.lemmas.List.Kept.{Any-dedup, Contains-from_dedup, IsStrictlySortedBy-dedup}
use Rattle.std.proofs.lemmas.List.Sorted.{All-permutation, Contains-permutation, IsPermutation-sym}
use Rattle.std.proofs.lemmas.Slice.Eq.{bytes_eq-Decides}
use Rattle.sample_tables.specs.declared.samples.Sample.{Sample}
use Rattle.function_sums.specs.declared.changes.ChangeOrder.{ChangeOrder}
use Rattle.function_sums.specs.declared.changes.FunctionChange.{FunctionChange}
use Rattle.function_sums.specs.declared.sums.FunctionSum.{FunctionSum}
use Rattle.function_sums.specs.FunctionChanges.{change_of, change_cmp, AreFunctionChanges}
use Rattle.function_sums.specs.FunctionSums.{total_of, AreFunctionSums}
use Rattle.function_sums.specs.checked.Sides.{ChangeRow, HasSize, row_name}
use Rattle.function_sums.proofs.FunctionList.{among-append, among-back, among-front, either}
use Rattle.function_sums.proofs.OneTable.{Among, among-contained, among-name, contained-among, named-among}
use Rattle.run_options.specs.declared.orders.FunctionOrder.{FunctionOrder as Order}

-- ---- the order of rows

abbrev pub row_cmp : ChangeRow → ChangeRow → Ordering
row_cmp a b = ordering_then (nat_cmp b.0.0 a.0.0) (slice_cmp nat_cmp a.1.now b.1.now)

abbrev pub row_eq : ChangeRow → ChangeRow → Bool
row_eq a b = nat_eq a.0.0 b.0.0 && bytes_eq a.1.now b.1.now

row_total : IsTotalOrder row_cmp
row_total = then_total (on_total (λ (row : ChangeRow). row.0.0) (back_total nat_cmp_total)) (on_total row_name nat_list_cmp_total)

row_equiv : IsEquivalence row_eq
row_equiv = and_equiv (on_equiv (λ (row : ChangeRow). row.0.0) nat_eq_equiv) (on_equiv row_name nat_list_eq_equiv)

row_ties : (a b : ChangeRow) → row_eq a b ≡ eq_by_cmp row_cmp a b
row_ties a b =
    (λ i. (nat_eq_equiv.symm a.0.0 b.0.0 ∙ unsigned_ties b.0.0 a.0.0) i && texts_ties a.1.now b.1.now i) ∙ sym (both_tie (nat_cmp b.0.0 a.0.0) (slice_cmp nat_cmp a.1.now b.1.now))
  where
    both_tie : (x y : Ordering) → is_eq (ordering_then x y) ≡ (is_eq x && is_eq y)
    both_tie Less y = refl
    both_tie Equal y = refl
    both_tie Greater y = refl

-- ---- the table

module _ (by : ChangeOrder) (first second : Order) (before after : List Sample) (olds news : List FunctionSum) (of_before : AreFunctionSums first before olds) (of_after : AreFunctionSums second after news)
    (rows sorted kept : List ChangeRow) (names : map row_name rows ≡ map (λ (sum : FunctionSum). sum.name) olds ++ map (λ (sum : FunctionSum). sum.name) news) (sizes : All (HasSize by before after) rows)
    (perm : IsPermutation rows sorted) (up : IsSorted row_cmp sorted) (kept_is : kept ≡ dedup row_eq sorted) where
  names_of : (some : List ChangeRow) → map (λ (change : FunctionChange). change.name) (map (λ row. change_of before after (row_name row)) some) ≡ map row_name some
  names_of [] = refl
  names_of (row ∷ some) = ap (λ names. row_name row ∷ names) (names_of some)

  -- a name that is kept has a row, and a name that has a row is kept
  had : (name : List ℕ) → Among name (map row_name kept) → Among name (map row_name rows)
  had name m =
      let found = named-among row_name name kept m in
      let there = Contains-from_dedup row_eq sorted found.0 (subst (λ all. Contains all found.0) kept_is (contained-among kept found.0 found.1)) in
      let here = Contains-permutation sorted rows found.0 (IsPermutation-sym rows sorted perm) there in
      subst (λ n. Among n (map row_name rows)) found.2 (among-name row_name found.0 rows (among-contained rows found.0 here))

  stays : (name : List ℕ) → Among name (map row_name rows) → Among name (map row_name kept)
  stays name m =
      let found = named-among row_name name rows m in
      let there = Contains-permutation rows sorted found.0 perm (contained-among rows found.0 found.1) in
      let same = Any-dedup row_equiv sorted found.0 there in
      let is = (bytes_eq-Decides (row_name found.0) (row_name same.1)).0 (and_parts (nat_eq found.0.0.0 same.1.0.0) (bytes_eq (row_name found.0) (row_name same.1)) same.4).1 in
      let here = subst (λ all. Contains all same.1) (sym kept_is) (same.0, same.2, same.3) in
      subst (λ n. Among n (map row_name kept)) (sym is ∙ found.2) (among-name row_name same.1 kept (among-contained kept same.1 here))

  weighs : (name : List ℕ) → Among name (map row_name rows) → 0 < total_of name before + total_of name after
  weighs name m =
      let olds_names = map (λ (sum : FunctionSum). sum.name) olds in
      let news_names = map (λ (sum : FunctionSum). sum.name) news in
      ⊎_elim
      (λ here. omega (arith, (of_before.all name).0 (contained-among olds_names name here)))
      (λ there. omega (arith, (of_after.all name).0 (contained-among news_names name there)))
      (among-append name olds_names news_names (subst (λ all. Among name all) names m))

  stands : (name : List ℕ) → 0 < total_of name before + total_of name after → Among name (map row_name rows)
  stands name weight =
      let olds_names = map (λ (sum : FunctionSum). sum.name) olds in
      let news_names = map (λ (sum : FunctionSum). sum.name) news in
      subst (λ all. Among name all) (sym names)
      (⊎_elim
      (λ here. among-front name olds_names news_names (among-contained olds_names name ((of_before.all name).1 here)))
      (λ there. among-back name olds_names news_names (among-contained news_names name ((of_after.all name).1 there)))
      (either (total_of name before) (total_of name after) weight))

  below : (row : ChangeRow) (some : List ChangeRow) → HasSize by before after row → AllByRecursion (HasSize by before after) some → AllByRecursion (λ other. row_cmp row other ≡ Less) some
      → AllByRecursion (λ other. change_cmp by (change_of before after (row_name row)) other ≡ Less) (map (λ row. change_of before after (row_name row)) some)
  below row [] size sizes less = tt
  below row (other ∷ some) size sizes less = (
    (λ i. ordering_then (nat_cmp (sym sizes.0 i) (sym size i)) (slice_cmp nat_cmp (row_name row) (row_name other))) ∙ less.0,
    below row some size sizes.1 less.1,
  )

  in_order : (some : List ChangeRow) → AllByRecursion (HasSize by before after) some → IsStrictlySortedBy row_cmp some → IsStrictlySortedBy (change_cmp by) (map (λ row. change_of before after (row_name row)) some)
  unfolding IsStrictlySortedBy
  in_order [] sizes rise = tt
  in_order (row ∷ some) sizes rise = (below row some sizes.0 sizes.1 rise.0, in_order some sizes.1 rise.1)

  pub changed : AreFunctionChanges by before after (map (λ row. change_of before after (row_name row)) kept)
  changed =
      let kept_sizes = subst (All (HasSize by before after)) (sym kept_is) (All-dedup row_eq (HasSize by before after) sorted (All-permutation (HasSize by before after) rows sorted perm sizes)) in
      let kept_names = names_of kept in
      record {
        each = All-map (λ (change : FunctionChange). change ≡ change_of before after change.name) (λ row. change_of before after (row_name row)) kept (λ k d lt. refl);
        all = λ name. (
          (λ there. weighs name (had name (subst (λ all. Among name all) kept_names (among-contained _ name there)))),
          (λ weight. contained-among _ name (subst (λ all. Among name all) (sym kept_names) (stays name (stands name weight)))),
        );
        ordered = in_order kept (recursion_from_All (HasSize by before after) kept kept_sizes) (subst (IsStrictlySortedBy row_cmp) (sym kept_is) (IsStrictlySortedBy-dedup row_total row_ties sorted up));
      }
