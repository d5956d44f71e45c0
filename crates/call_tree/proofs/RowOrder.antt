-- Rows of nodes, sorted.
use Rattle.std.proofs.Common.{◌≡◌, ℕ, ◌+◌, ◌<◌, ◌≤◌, ◌⊎◌, inl, inr, false, cond, List, [], ◌∷◌, ◌++◌, length, get_or, nat_eq, is_lt, IsPermutation, refl, sym, ap, subst, ◌∙◌, arith, true≢false, eq-eqb}
use Rattle.std.specs.List.{count_by}
use Rattle.std.specs.Ordering.{nat_cmp, ordering_then, ordering_reverse}
use Rattle.std.specs.Cmp.Lexicographic.{slice_cmp}
use Rattle.std.specs.FinMap.{slice_cmp-IsAntisymmetric, nat_cmp-IsAntisymmetric}
use Rattle.std.specs.declared.cmp.Ordering.{Ordering}
use Rattle.std.specs.declared.cmp.Ordering.TheVariants.{Less, Equal, Greater}
use Rattle.std.proofs.lemmas.Cmp.{nat_list_cmp_total, ranked}
use Rattle.std.proofs.lemmas.List.{get_or_default}
use Rattle.std.proofs.lemmas.List.Sorted.{IsPermutation-sym, Contains-permutation, sum_by-IsPermutation, length_permutation}
use borrow.Author.Tests.{eqb-true}
use Rattle.call_tree.specs.declared.links.Link.{Link}
use Rattle.call_tree.specs.FrameTable.{HasDistinctNames}
use Rattle.call_tree.specs.checked.NodeOrder.{HasFramesOf, Row, IsRowOf, StandsBefore, AreRows}
use Rattle.call_tree.specs.checked.Nodes.{path_of, HasShape}
use Rattle.call_tree.proofs.Frames.{count_two, count_at_most_one}
use Rattle.call_tree.proofs.Paths.{path_of_child}
use Rattle.call_tree.proofs.Shape.{origin}
use Rattle.call_tree.proofs.Steps.{far}

abbrev pub row_cmp : Row → Row → Ordering
row_cmp a b = ordering_then (ordering_then (nat_cmp a.0 b.0) (slice_cmp nat_cmp b.1.0.now a.1.0.now)) (nat_cmp a.2 b.2)

-- what stands in no wrong order at neighbours stands in order
not_after : (a b : Row) → is_lt (row_cmp b a) ≡ false → StandsBefore a b ⊎ ((a.0 ≡ b.0) × (a.1.0.now ≡ b.1.0.now))
not_after a b up = by_parent (nat_cmp b.0 a.0) refl
  where
    by_name : (o : Ordering) → o ≡ slice_cmp nat_cmp a.1.0.now b.1.0.now → b.0 ≡ a.0 → is_lt (ordering_then o (nat_cmp b.2 a.2)) ≡ false → StandsBefore a b ⊎ ((a.0 ≡ b.0) × (a.1.0.now ≡ b.1.0.now))
    by_name Less e same not = absurd (true≢false not)
    by_name Equal e same not = inr (sym same, slice_cmp-IsAntisymmetric nat_cmp-IsAntisymmetric _ _ (sym e))
    by_name Greater e same not = inl (inr (sym same, nat_list_cmp_total.antisymm b.1.0.now a.1.0.now ∙ ap ordering_reverse (sym e)))

    by_parent : (o : Ordering) → o ≡ nat_cmp b.0 a.0 → StandsBefore a b ⊎ ((a.0 ≡ b.0) × (a.1.0.now ≡ b.1.0.now))
    by_parent Less e = absurd (true≢false (ap (λ o. is_lt (ordering_then (ordering_then o (slice_cmp nat_cmp a.1.0.now b.1.0.now)) (nat_cmp b.2 a.2))) e ∙ up))
    by_parent Equal e = by_name _ refl (ranked b.0 a.0 Equal e)
        (ap (λ o. is_lt (ordering_then (ordering_then o (slice_cmp nat_cmp a.1.0.now b.1.0.now)) (nat_cmp b.2 a.2))) e ∙ up)
    by_parent Greater e = inl (inl (ranked b.0 a.0 Greater e))

before_trans : (a b c : Row) → StandsBefore a b → StandsBefore b c → StandsBefore a c
before_trans a b c (inl ab) (inl bc) = inl (omega arith)
before_trans a b c (inl ab) (inr bc) = inl (omega (arith, bc.0))
before_trans a b c (inr ab) (inl bc) = inl (omega (arith, ab.0))
before_trans a b c (inr ab) (inr bc) = inr (ab.0 ∙ bc.0, nat_list_cmp_total.trans c.1.0.now b.1.0.now a.1.0.now bc.1 ab.1)

module _ (names : List (List ℕ)) (links : List Link) (owns totals : List ℕ) (s : HasShape links owns totals) (distinct : HasDistinctNames names)
    (frames : HasFramesOf names links)
    (rows sorted : List Row) (len : length rows ≡ length links) (rows_are : (i : ℕ) (d : Row) → i < length rows → IsRowOf names links i (get_or rows i d))
    (perm : IsPermutation rows sorted) where
  sorted_at : (i : ℕ) (d : Row) → i < length sorted → (k : ℕ) × (k < length links) × IsRowOf names links k (get_or sorted i d)
  sorted_at i d lt =
      let row = get_or sorted i d in
      let there = Contains-permutation sorted rows row (IsPermutation-sym rows sorted perm) (i, lt, get_or_default sorted i row d lt) in
      (there.0, omega (arith, there.1, len), subst (IsRowOf names links there.0) there.2 (rows_are there.0 row there.1))

  -- no node has two rows
  once : (d : Row) (node : ℕ) → count_by (λ (row : Row). nat_eq node row.2) sorted ≤ 1
  once d node =
      let at_most : count_by (λ (row : Row). nat_eq node row.2) rows ≤ 1 =
      count_at_most_one (λ (row : Row). nat_eq node row.2) rows d (λ i j lt lj ai aj.
      let is_i : node ≡ i + 1 = eqb-true node _ ai ∙ (rows_are i d (omega arith)).number in
      let is_j : node ≡ j + 1 = eqb-true node _ aj ∙ (rows_are j d lj).number in
      omega arith) in
      omega (arith, at_most, sum_by-IsPermutation (λ (row : Row). cond (nat_eq node row.2) 1 0) rows sorted perm)

  -- so two rows differ by parent or name
  apart : (i j : ℕ) (d : Row) → i < j → j < length sorted → (get_or sorted i d).0 ≡ (get_or sorted j d).0 → (get_or sorted i d).1.0.now ≡ (get_or sorted j d).1.0.now → ⊥
  apart i j d lt lj parents texts =
      let a = sorted_at i d (omega arith) in
      let b = sorted_at j d lj in
      let ra = a.2 in
      let rb = b.2 in
      let frame : (get_or links a.0 origin).frame ≡ (get_or links b.0 origin).frame = distinct _ _ (frames a.0 origin a.1) (frames b.0 origin b.1) (sym (ra.name origin) ∙ texts ∙ rb.name origin) in
      let parent : (get_or links a.0 origin).parent ≡ (get_or links b.0 origin).parent = sym (ra.parent origin) ∙ parents ∙ rb.parent origin in
      let path : path_of links (a.0 + 1) ≡ path_of links (b.0 + 1) =
      path_of_child links a.0 origin a.1 (s.after_parent a.0 origin a.1) ∙ (λ k. path_of links (parent k) ++ frame k ∷ []) ∙ sym (path_of_child links b.0 origin b.1 (s.after_parent b.0 origin b.1)) in
      let same : a.0 + 1 ≡ b.0 + 1 = s.distinct (a.0 + 1) (b.0 + 1) (omega (arith, a.1)) (omega (arith, b.1)) path in
      let two = count_two (λ (row : Row). nat_eq (b.0 + 1) row.2) sorted i j d lt lj (eq-eqb _ _ (sym (ra.number ∙ same))) (eq-eqb _ _ (sym rb.number)) in
      omega (arith, two, once d (b.0 + 1))

  pub sorted_are : ((k : ℕ) (d : Row) → 0 ≤ k → k + 1 < length sorted → is_lt (row_cmp (get_or sorted (k + 1) d) (get_or sorted k d)) ≡ false) → AreRows names links sorted
  sorted_are up = record {
    len = length_permutation rows sorted perm ∙ len;
    rows_are = sorted_at;
    each = λ at d lt.
        let row = get_or rows at d in
        let inside : at < length rows = omega (arith, len) in
        let moved = Contains-permutation rows sorted row perm (at, inside, get_or_default rows at row d inside) in
        (moved.0, moved.1, subst (IsRowOf names links at) (sym (get_or_default sorted moved.0 d row moved.1 ∙ moved.2)) (rows_are at d inside));
    ordered = λ i j d lt lj. far StandsBefore before_trans (λ k. get_or sorted k d) (length sorted) (λ k lk. elim (not_after (get_or sorted k d) (get_or sorted (k + 1) d) (up k d (omega arith) lk)) [
      | inl before ↦ before
      | inr tie ↦ absurd (apart k (k + 1) d (omega arith) lk tie.0 tie.1)
    ]) i j lt lj;
  }
