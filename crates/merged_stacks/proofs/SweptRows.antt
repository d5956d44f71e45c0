-- The rows of one sweep over two lists are the stacks of both, each once, with both sums.
use Rattle.std.proofs.Common.{◌≡◌, ℕ, ◌+◌, ◌<◌, List, [], ◌∷◌, ◌++◌, Bool, true, false, cond, map, T, refl, sym, ap, ◌∙◌, subst, arith, is_lt, length, get_or, All, ◌≤◌}
use Rattle.std.specs.List.{AllByRecursion}
use Rattle.std.specs.Ordering.{nat_cmp, is_eq, match_ordering, ordering_reverse}
use Rattle.std.specs.Cmp.Lexicographic.{slice_cmp}
use Rattle.std.specs.declared.cmp.Ordering.{Ordering}
use Rattle.std.specs.declared.cmp.Ordering.TheVariants.{Less, Equal, Greater}
use Rattle.std.specs.FinMap.{nat_cmp-IsAntisymmetric, slice_cmp-IsAntisymmetric}
use Rattle.std.specs.FinMap.Entries.{is_sorted, below_all}
use Rattle.std.proofs.lemmas.Cmp.{tied_itself}
use Rattle.std.proofs.lemmas.List.{map-append, get_or-map, length-map}
use Rattle.std.proofs.lemmas.List.Elements.{All-from_recursion}
use Rattle.sample_tables.specs.declared.samples.Sample.{Sample}
use Rattle.sample_tables.specs.declared.samples.TheConstants.{FRAME_LIMIT}
use Rattle.sample_tables.specs.Rows.{name_at}
use Rattle.merged_stacks.specs.declared.sweeps.Place.{Place}
use Rattle.merged_stacks.specs.declared.sweeps.Place.TheVariants.{Before, After, Both}
use Rattle.merged_stacks.specs.Order.{stack_cmp, AreRising}
use Rattle.merged_stacks.specs.Timeline.{Stack}
use Rattle.merged_stacks.specs.Merged.{Weighed, weighed, sum_at, merged}
use Rattle.merged_stacks.specs.Paired.{PairedStack, paired_at, paired_stacks, pair_at}
use Rattle.merged_stacks.specs.checked.Ranked.{Ranked, named_row, named_rows, IsRankedStack, AreMerged}
use Rattle.merged_stacks.specs.checked.Swept.{PairedRow, row_of_after, swept_front, swept, place_row, IsPlace, ArePaired, paired_of}
use Rattle.merged_stacks.proofs.JoinedStacks.{stacks_rise, below_far, both, less_from, rows_merged}
use Rattle.merged_stacks.proofs.MergedRows.{stack_cmp_total, sum_at-cons, sum_at-nil, sum_at-append, as_true, first, second}

nothing : (b : Bool) → cond {A = ℕ} b 0 0 ≡ 0
nothing true = refl
nothing false = refl

module _ (names : List (List ℕ)) where
  -- the rows by a weight
  abbrev pub by_weight : (PairedRow → ℕ) → List PairedRow → List Weighed
  by_weight w rows = map (λ row. (map (name_at names) row.0, w row)) rows

  abbrev pub before_of : PairedRow → ℕ
  before_of row = row.1

  abbrev pub after_of : PairedRow → ℕ
  after_of row = row.2

  abbrev pub both_of : PairedRow → ℕ
  both_of row = row.1 + row.2

  -- ---- sums

  abbrev share : Stack → List ℕ → ℕ → ℕ
  share q ranks n = cond (is_eq (stack_cmp q (map (name_at names) ranks))) n 0

  cons-sum : (w : PairedRow → ℕ) (row : PairedRow) (rows : List PairedRow) (q : Stack) → sum_at (by_weight w (row ∷ rows)) q ≡ share q row.0 (w row) + sum_at (by_weight w rows) q
  cons-sum w row rows q = sum_at-cons (map (name_at names) row.0, w row) (by_weight w rows) q

  no_before : (rights : List Ranked) (q : Stack) → sum_at (by_weight before_of (map row_of_after rights)) q ≡ 0
  no_before [] q = sum_at-nil q
  no_before (r ∷ rs) q = cons-sum before_of (row_of_after r) (map row_of_after rs) q ∙ omega (arith, nothing (is_eq (stack_cmp q (map (name_at names) r.0))), no_before rs q)

  before-sum : (ls rs : List Ranked) (q : Stack) → sum_at (by_weight before_of (swept ls rs)) q ≡ sum_at (named_rows names ls) q
  before-sum [] rs q = no_before rs q ∙ sym (sum_at-nil q)
  before-sum (l ∷ ls) rs q = front (λ more. before-sum ls more q) rs
    where
      head : (n : ℕ) (more : List PairedRow) → sum_at (by_weight before_of more) q ≡ sum_at (named_rows names ls) q → sum_at (by_weight before_of ((l.0, l.1, n) ∷ more)) q ≡ sum_at (named_rows names (l ∷ ls)) q
      head n more e = cons-sum before_of (l.0, l.1, n) more q ∙ ap (λ k. share q l.0 l.1 + k) e ∙ sym (sum_at-cons (named_row names l) (named_rows names ls) q)

      front : ((more : List Ranked) → sum_at (by_weight before_of (swept ls more)) q ≡ sum_at (named_rows names ls) q) → (others : List Ranked) → sum_at (by_weight before_of (swept_front l (swept ls) others)) q ≡ sum_at (named_rows names (l ∷ ls)) q
      front rest [] = head 0 (swept ls []) (rest [])
      front rest (r ∷ others) = by (slice_cmp nat_cmp l.0 r.0) (front rest others)
        where
          by : (o : Ordering) → sum_at (by_weight before_of (swept_front l (swept ls) others)) q ≡ sum_at (named_rows names (l ∷ ls)) q
              → sum_at (by_weight before_of (match_ordering o ((l.0, l.1, 0) ∷ swept ls (r ∷ others)) ((l.0, l.1, r.1) ∷ swept ls others) (row_of_after r ∷ swept_front l (swept ls) others))) q ≡ sum_at (named_rows names (l ∷ ls)) q
          by Less ih = head 0 (swept ls (r ∷ others)) (rest (r ∷ others))
          by Equal ih = head r.1 (swept ls others) (rest others)
          by Greater ih = cons-sum before_of (row_of_after r) (swept_front l (swept ls) others) q ∙ omega (arith, nothing (is_eq (stack_cmp q (map (name_at names) r.0))), ih)

  after_alone : (rights : List Ranked) → by_weight after_of (map row_of_after rights) ≡ named_rows names rights
  after_alone [] = refl
  after_alone (r ∷ rs) = ap (λ all. named_row names r ∷ all) (after_alone rs)

  after-sum : (ls rs : List Ranked) (q : Stack) → sum_at (by_weight after_of (swept ls rs)) q ≡ sum_at (named_rows names rs) q
  after-sum [] rs q = ap (λ all. sum_at all q) (after_alone rs)
  after-sum (l ∷ ls) rs q = front (λ more. after-sum ls more q) rs
    where
      alone : (more : List PairedRow) (n : ℕ) → sum_at (by_weight after_of more) q ≡ n → sum_at (by_weight after_of ((l.0, l.1, 0) ∷ more)) q ≡ n
      alone more n e = cons-sum after_of (l.0, l.1, 0) more q ∙ omega (arith, nothing (is_eq (stack_cmp q (map (name_at names) l.0))), e)

      front : ((more : List Ranked) → sum_at (by_weight after_of (swept ls more)) q ≡ sum_at (named_rows names more) q) → (others : List Ranked) → sum_at (by_weight after_of (swept_front l (swept ls) others)) q ≡ sum_at (named_rows names others) q
      front rest [] = alone (swept ls []) (sum_at [] q) (rest [])
      front rest (r ∷ others) = by (slice_cmp nat_cmp l.0 r.0) refl (front rest others)
        where
          by : (o : Ordering) → slice_cmp nat_cmp l.0 r.0 ≡ o → sum_at (by_weight after_of (swept_front l (swept ls) others)) q ≡ sum_at (named_rows names others) q
              → sum_at (by_weight after_of (match_ordering o ((l.0, l.1, 0) ∷ swept ls (r ∷ others)) ((l.0, l.1, r.1) ∷ swept ls others) (row_of_after r ∷ swept_front l (swept ls) others))) q ≡ sum_at (named_rows names (r ∷ others)) q
          by Less e ih = alone (swept ls (r ∷ others)) (sum_at (named_rows names (r ∷ others)) q) (rest (r ∷ others))
          by Equal e ih =
              cons-sum after_of (l.0, l.1, r.1) (swept ls others) q ∙ (λ i. share q (slice_cmp-IsAntisymmetric nat_cmp-IsAntisymmetric l.0 r.0 e i) r.1 + rest others i)
              ∙ sym (sum_at-cons (named_row names r) (named_rows names others) q)
          by Greater e ih = cons-sum after_of (row_of_after r) (swept_front l (swept ls) others) q ∙ ap (λ k. share q r.0 r.1 + k) ih ∙ sym (sum_at-cons (named_row names r) (named_rows names others) q)

  split : (b : Bool) (x y : ℕ) → cond b (x + y) 0 ≡ cond b x 0 + cond b y 0
  split true x y = refl
  split false x y = refl

  both-sum : (rows : List PairedRow) (q : Stack) → sum_at (by_weight both_of rows) q ≡ sum_at (by_weight before_of rows) q + sum_at (by_weight after_of rows) q
  both-sum [] q = omega (arith, sum_at-nil q)
  both-sum (row ∷ rows) q =
      omega (arith, cons-sum both_of row rows q, cons-sum before_of row rows q, cons-sum after_of row rows q, split (is_eq (stack_cmp q (map (name_at names) row.0))) row.1 row.2, both-sum rows q)

  -- ---- order

  both_alone : (rights : List Ranked) → by_weight both_of (map row_of_after rights) ≡ named_rows names rights
  both_alone [] = refl
  both_alone (r ∷ rs) =
      let alone : 0 + r.1 ≡ r.1 = omega arith in
      λ i. (map (name_at names) r.0, alone i) ∷ both_alone rs i

  below-swept : (k : Stack) (ls rs : List Ranked) → T (below_all stack_cmp k (named_rows names ls)) → T (below_all stack_cmp k (named_rows names rs)) → T (below_all stack_cmp k (by_weight both_of (swept ls rs)))
  below-swept k [] rs h g = subst (λ all. T (below_all stack_cmp k all)) (sym (both_alone rs)) g
  below-swept k (l ∷ ls) rs h g = front (λ more m. below-swept k ls more later m) rs g
    where
      here : T (is_lt (stack_cmp k (map (name_at names) l.0)))
      here = first (is_lt (stack_cmp k (map (name_at names) l.0))) (below_all stack_cmp k (named_rows names ls)) h

      later : T (below_all stack_cmp k (named_rows names ls))
      later = second (is_lt (stack_cmp k (map (name_at names) l.0))) (below_all stack_cmp k (named_rows names ls)) h

      front : ((more : List Ranked) → T (below_all stack_cmp k (named_rows names more)) → T (below_all stack_cmp k (by_weight both_of (swept ls more)))) → (others : List Ranked) → T (below_all stack_cmp k (named_rows names others)) → T (below_all stack_cmp k (by_weight both_of (swept_front l (swept ls) others)))
      front go [] g = both (is_lt (stack_cmp k (map (name_at names) l.0))) _ here (go [] tt)
      front go (r ∷ others) g = by (slice_cmp nat_cmp l.0 r.0) (front go others rest)
        where
          rest : T (below_all stack_cmp k (named_rows names others))
          rest = second (is_lt (stack_cmp k (map (name_at names) r.0))) (below_all stack_cmp k (named_rows names others)) g

          by : (o : Ordering) → T (below_all stack_cmp k (by_weight both_of (swept_front l (swept ls) others)))
              → T (below_all stack_cmp k (by_weight both_of (match_ordering o ((l.0, l.1, 0) ∷ swept ls (r ∷ others)) ((l.0, l.1, r.1) ∷ swept ls others) (row_of_after r ∷ swept_front l (swept ls) others))))
          by Less ih = both (is_lt (stack_cmp k (map (name_at names) l.0))) _ here (go (r ∷ others) g)
          by Equal ih = both (is_lt (stack_cmp k (map (name_at names) l.0))) _ here (go others rest)
          by Greater ih = both (is_lt (stack_cmp k (map (name_at names) r.0))) _ (first (is_lt (stack_cmp k (map (name_at names) r.0))) (below_all stack_cmp k (named_rows names others)) g) ih

  sorted-swept : AreRising names → (ls rs : List Ranked) → AllByRecursion (IsRankedStack names) ls → AllByRecursion (IsRankedStack names) rs → T (is_sorted stack_cmp (named_rows names ls)) → T (is_sorted stack_cmp (named_rows names rs))
      → T (is_sorted stack_cmp (by_weight both_of (swept ls rs)))
  sorted-swept rising [] rs x y h g = subst (λ all. T (is_sorted stack_cmp all)) (sym (both_alone rs)) g
  sorted-swept rising (l ∷ ls) rs x y h g = front (λ more z m. sorted-swept rising ls more x.1 z tail m) rs y g
    where
      above : T (below_all stack_cmp (map (name_at names) l.0) (named_rows names ls))
      above = first (below_all stack_cmp (map (name_at names) l.0) (named_rows names ls)) (is_sorted stack_cmp (named_rows names ls)) h

      tail : T (is_sorted stack_cmp (named_rows names ls))
      tail = second (below_all stack_cmp (map (name_at names) l.0) (named_rows names ls)) (is_sorted stack_cmp (named_rows names ls)) h

      front : ((more : List Ranked) → AllByRecursion (IsRankedStack names) more → T (is_sorted stack_cmp (named_rows names more)) → T (is_sorted stack_cmp (by_weight both_of (swept ls more)))) → (others : List Ranked) → AllByRecursion (IsRankedStack names) others → T (is_sorted stack_cmp (named_rows names others)) → T (is_sorted stack_cmp (by_weight both_of (swept_front l (swept ls) others)))
      front go [] y g = both (below_all stack_cmp (map (name_at names) l.0) (by_weight both_of (swept ls []))) _ (below-swept (map (name_at names) l.0) ls [] above tt) (go [] tt tt)
      front go (r ∷ others) y g = by (slice_cmp nat_cmp l.0 r.0) refl (front go others y.1 rest)
        where
          over : T (below_all stack_cmp (map (name_at names) r.0) (named_rows names others))
          over = first (below_all stack_cmp (map (name_at names) r.0) (named_rows names others)) (is_sorted stack_cmp (named_rows names others)) g

          rest : T (is_sorted stack_cmp (named_rows names others))
          rest = second (below_all stack_cmp (map (name_at names) r.0) (named_rows names others)) (is_sorted stack_cmp (named_rows names others)) g

          order : stack_cmp (map (name_at names) l.0) (map (name_at names) r.0) ≡ slice_cmp nat_cmp l.0 r.0
          order = stacks_rise names rising l.0 r.0 x.0.below y.0.below

          by : (o : Ordering) → slice_cmp nat_cmp l.0 r.0 ≡ o → T (is_sorted stack_cmp (by_weight both_of (swept_front l (swept ls) others)))
              → T (is_sorted stack_cmp (by_weight both_of (match_ordering o ((l.0, l.1, 0) ∷ swept ls (r ∷ others)) ((l.0, l.1, r.1) ∷ swept ls others) (row_of_after r ∷ swept_front l (swept ls) others))))
          by Less e ih =
              let less : stack_cmp (map (name_at names) l.0) (map (name_at names) r.0) ≡ Less = order ∙ e in
              let far = both (is_lt (stack_cmp (map (name_at names) l.0) (map (name_at names) r.0))) (below_all stack_cmp (map (name_at names) l.0) (named_rows names others)) (as_true _ (ap is_lt less)) (below_far (map (name_at names) l.0) (map (name_at names) r.0) (named_rows names others) less over) in
              both (below_all stack_cmp (map (name_at names) l.0) (by_weight both_of (swept ls (r ∷ others)))) _ (below-swept (map (name_at names) l.0) ls (r ∷ others) above far) (go (r ∷ others) y g)
          by Equal e ih =
              let same : r.0 ≡ l.0 = sym (slice_cmp-IsAntisymmetric nat_cmp-IsAntisymmetric l.0 r.0 e) in
              let far = subst (λ ranks. T (below_all stack_cmp (map (name_at names) ranks) (named_rows names others))) same over in
              both (below_all stack_cmp (map (name_at names) l.0) (by_weight both_of (swept ls others))) _ (below-swept (map (name_at names) l.0) ls others above far) (go others y.1 rest)
          by Greater e ih =
              let less : stack_cmp (map (name_at names) r.0) (map (name_at names) l.0) ≡ Less = stack_cmp_total.antisymm (map (name_at names) r.0) (map (name_at names) l.0) ∙ ap ordering_reverse (order ∙ e) in
              let far = both (is_lt (stack_cmp (map (name_at names) r.0) (map (name_at names) l.0))) (below_all stack_cmp (map (name_at names) r.0) (named_rows names ls)) (as_true _ (ap is_lt less)) (below_far (map (name_at names) r.0) (map (name_at names) l.0) (named_rows names ls) less above) in
              both (below_all stack_cmp (map (name_at names) r.0) (by_weight both_of (swept_front l (swept ls) others))) _ (below-swept (map (name_at names) r.0) (l ∷ ls) others far over) ih

  -- ---- each row has weight

  positive-swept : (ls rs : List Ranked) → AllByRecursion (IsRankedStack names) ls → AllByRecursion (IsRankedStack names) rs → AllByRecursion (λ row. 0 < row.1) (by_weight both_of (swept ls rs))
  positive-swept [] [] x y = tt
  positive-swept [] (r ∷ rs) x y = (omega (arith, y.0.positive), positive-swept [] rs tt y.1)
  positive-swept (l ∷ ls) rs x y = front (λ more z. positive-swept ls more x.1 z) rs y
    where
      front : ((more : List Ranked) → AllByRecursion (IsRankedStack names) more → AllByRecursion (λ row. 0 < row.1) (by_weight both_of (swept ls more))) → (others : List Ranked) → AllByRecursion (IsRankedStack names) others → AllByRecursion (λ row. 0 < row.1) (by_weight both_of (swept_front l (swept ls) others))
      front go [] y = (omega (arith, x.0.positive), go [] tt)
      front go (r ∷ others) y = by (slice_cmp nat_cmp l.0 r.0) (front go others y.1)
        where
          by : (o : Ordering) → AllByRecursion (λ row. 0 < row.1) (by_weight both_of (swept_front l (swept ls) others))
              → AllByRecursion (λ row. 0 < row.1) (by_weight both_of (match_ordering o ((l.0, l.1, 0) ∷ swept ls (r ∷ others)) ((l.0, l.1, r.1) ∷ swept ls others) (row_of_after r ∷ swept_front l (swept ls) others)))
          by Less ih = (omega (arith, x.0.positive), go (r ∷ others) y)
          by Equal ih = (omega (arith, x.0.positive), go others y.1)
          by Greater ih = (omega (arith, y.0.positive), ih)

  -- ---- a row's weights are the sums of its stack

  no_sum : (w : PairedRow → ℕ) (k : Stack) (rows : List PairedRow) → T (below_all stack_cmp k (by_weight both_of rows)) → sum_at (by_weight w rows) k ≡ 0
  no_sum w k [] h = sum_at-nil k
  no_sum w k (row ∷ rows) h =
      let here = first (is_lt (stack_cmp k (map (name_at names) row.0))) (below_all stack_cmp k (by_weight both_of rows)) h in
      let later = second (is_lt (stack_cmp k (map (name_at names) row.0))) (below_all stack_cmp k (by_weight both_of rows)) h in
      cons-sum w row rows k ∙ (λ i. cond (is_eq (less_from _ here i)) (w row) 0 + no_sum w k rows later i)

  abbrev HasOwn : (PairedRow → ℕ) → List PairedRow → PairedRow → Type 0
  HasOwn w all row = sum_at (by_weight w all) (map (name_at names) row.0) ≡ w row

  own_sums : (w : PairedRow → ℕ) (rows : List PairedRow) → T (is_sorted stack_cmp (by_weight both_of rows)) → AllByRecursion (HasOwn w rows) rows
  own_sums w [] h = tt
  own_sums w (x ∷ rows) h = (own, others rows above (own_sums w rows rest))
    where
      above : T (below_all stack_cmp (map (name_at names) x.0) (by_weight both_of rows))
      above = first (below_all stack_cmp (map (name_at names) x.0) (by_weight both_of rows)) (is_sorted stack_cmp (by_weight both_of rows)) h

      rest : T (is_sorted stack_cmp (by_weight both_of rows))
      rest = second (below_all stack_cmp (map (name_at names) x.0) (by_weight both_of rows)) (is_sorted stack_cmp (by_weight both_of rows)) h

      own : HasOwn w (x ∷ rows) x
      own = cons-sum w x rows (map (name_at names) x.0) ∙ (λ i. cond (is_eq (tied_itself stack_cmp_total (map (name_at names) x.0) i)) (w x) 0 + no_sum w (map (name_at names) x.0) rows above i) ∙ omega arith

      others : (some : List PairedRow) → T (below_all stack_cmp (map (name_at names) x.0) (by_weight both_of some)) → AllByRecursion (HasOwn w rows) some → AllByRecursion (HasOwn w (x ∷ rows)) some
      others [] g a = tt
      others (row ∷ some) g a =
          let less : stack_cmp (map (name_at names) x.0) (map (name_at names) row.0) ≡ Less = less_from _ (first (is_lt (stack_cmp (map (name_at names) x.0) (map (name_at names) row.0))) (below_all stack_cmp (map (name_at names) x.0) (by_weight both_of some)) g) in
          let apart : stack_cmp (map (name_at names) row.0) (map (name_at names) x.0) ≡ Greater = stack_cmp_total.antisymm (map (name_at names) row.0) (map (name_at names) x.0) ∙ ap ordering_reverse less in (
            cons-sum w x rows (map (name_at names) row.0) ∙ (λ i. cond (is_eq (apart i)) (w x) 0 + a.0 i) ∙ omega arith,
            others some (second (is_lt (stack_cmp (map (name_at names) x.0) (map (name_at names) row.0))) (below_all stack_cmp (map (name_at names) x.0) (by_weight both_of some)) g) a.1,
          )

  rows_are : (before after : List Sample) (all rows : List PairedRow) → ((q : Stack) → sum_at (by_weight before_of all) q ≡ sum_at (weighed before) q) → ((q : Stack) → sum_at (by_weight after_of all) q ≡ sum_at (weighed after) q)
      → AllByRecursion (HasOwn before_of all) rows → AllByRecursion (HasOwn after_of all) rows → map (paired_of names) rows ≡ map (λ (row : Weighed). paired_at before after row.0) (by_weight both_of rows)
  rows_are before after all [] x y h g = refl
  rows_are before after all (row ∷ rows) x y h g =
      let one = sym h.0 ∙ x (map (name_at names) row.0) in
      let other = sym g.0 ∙ y (map (name_at names) row.0) in
      λ i. record { stack = map (name_at names) row.0; before = one i; after = other i } ∷ rows_are before after all rows x y h.1 g.1 i

  -- the rows by their names
  pub swept_are : (before after : List Sample) (ls rs : List Ranked) → AreMerged names ls → AreMerged names rs → ((q : Stack) → sum_at (named_rows names ls) q ≡ sum_at (weighed before) q) → ((q : Stack) → sum_at (named_rows names rs) q ≡ sum_at (weighed after) q)
      → map (paired_of names) (swept ls rs) ≡ paired_stacks before after
  swept_are before after ls rs a b x y =
      let rows = swept ls rs in
      let lefts : (q : Stack) → sum_at (by_weight before_of (swept ls rs)) q ≡ sum_at (weighed before) q = λ q. before-sum ls rs q ∙ x q in
      let rights : (q : Stack) → sum_at (by_weight after_of (swept ls rs)) q ≡ sum_at (weighed after) q = λ q. after-sum ls rs q ∙ y q in
      let sorted = sorted-swept a.rising ls rs a.each b.each (as_true _ a.ordered) (as_true _ b.ordered) in
      rows_are before after rows rows lefts rights (own_sums before_of rows sorted) (own_sums after_of rows sorted)
      ∙ ap (map (λ (row : Weighed). paired_at before after row.0))
      (rows_merged (by_weight both_of rows) (weighed (before ++ after)) sorted (positive-swept ls rs a.each b.each)
      (λ q. both-sum rows q ∙ (λ i. lefts q i + rights q i) ∙ sym (sum_at-append (weighed before) (weighed after) q) ∙ ap (λ all. sum_at all q) (sym (map-append (λ (sample : Sample). (sample.stack, sample.weight)) before after))))

  pub places_are : (lefts rights : List Ranked) (places : List Place) → map (λ place. paired_of names (place_row lefts rights place)) places ≡ map (paired_of names) (map (place_row lefts rights) places)
  places_are lefts rights [] = refl
  places_are lefts rights (place ∷ places) = ap (λ rows. paired_of names (place_row lefts rights place) ∷ rows) (places_are lefts rights places)

-- ---- reading a stack

pub pair_is : (names : List (List ℕ)) (lefts rights : List Ranked) (places : List Place) (all : List PairedStack) (at : ℕ) (place : Place) → map (λ p. paired_of names (place_row lefts rights p)) places ≡ all → at < length all → place ≡ get_or places at place
    → pair_at all at ≡ paired_of names (place_row lefts rights place)
pair_is names lefts rights places all at place view lt is =
    let f = λ (p : Place). paired_of names (place_row lefts rights p) in
    let within : at < length places = omega (arith, lt, ap length view, length-map places (λ (p : Place). paired_of names (place_row lefts rights p))) in
    ap (λ xs. pair_at xs at) (sym view) ∙ get_or-map f places at place (record { stack = []; before = 0; after = 0 }) within ∙ ap f (sym is)

-- ranks that lead to names, no more than a stack may have
pub record Fit (names : List (List ℕ)) (ranks : List ℕ) : Type 0 where
  pub below : All (λ rank. rank < length names) ranks
  pub depth : length ranks ≤ FRAME_LIMIT

fit_at : (names : List (List ℕ)) (rows : List Ranked) → AreMerged names rows → (at : ℕ) → at < length rows → Fit names (get_or rows at ([], 0)).0
fit_at names rows merged at lt =
    let row = All-from_recursion (IsRankedStack names) rows merged.each at ([], 0) lt in
    record { below = row.below; depth = row.depth }

pub place_fits : (names : List (List ℕ)) (lefts rights : List Ranked) → AreMerged names lefts → AreMerged names rights → (place : Place) → IsPlace lefts rights place → Fit names (place_row lefts rights place).0
place_fits names lefts rights a b (Before at) h = fit_at names lefts a at h
place_fits names lefts rights a b (After at) h = fit_at names rights b at h
place_fits names lefts rights a b (Both at other) h = fit_at names lefts a at h.0

pub pairs_within : (names : List (List ℕ)) (lefts rights : List Ranked) (places : List Place) (all : List PairedStack) (at : ℕ) → map (λ p. paired_of names (place_row lefts rights p)) places ≡ all → at < length all → at < length places
pairs_within names lefts rights places all at view lt = omega (arith, lt, ap length view, length-map places (λ (p : Place). paired_of names (place_row lefts rights p)))

pub is_placed : (lefts rights : List Ranked) (places : List Place) (at : ℕ) (place : Place) → All (IsPlace lefts rights) places → at < length places → place ≡ get_or places at place → IsPlace lefts rights place
is_placed lefts rights places at place within lt is = subst (IsPlace lefts rights) (sym is) (within at place lt)

-- a frame lies among the ranks of its stack
pub record IsDeep (ranks : List ℕ) (frame : ℕ) : Type 0 where
  pub inside : frame < length ranks
  pub limit : length ranks ≤ FRAME_LIMIT

pub paired_deep : (names : List (List ℕ)) (lefts rights : List Ranked) (places : List Place) (all : List PairedStack) (at frame : ℕ) (place : Place) (ranks : List ℕ) → ArePaired names lefts rights places
    → map (λ p. paired_of names (place_row lefts rights p)) places ≡ all → at < length all → place ≡ get_or places at place → ranks ≡ (place_row lefts rights place).0 → frame < length (pair_at all at).stack → IsDeep ranks frame
paired_deep names lefts rights places all at frame place ranks are view lt is row deep =
    let here = pair_is names lefts rights places all at place view lt is in
    let placed = is_placed lefts rights places at place are.within (pairs_within names lefts rights places all at view lt) is in
    let fits = place_fits names lefts rights are.before are.after place placed in
    record {
      inside = omega (arith, deep, ap (λ (pair : PairedStack). length pair.stack) here, length-map (place_row lefts rights place).0 (name_at names), ap length row);
      limit = omega (arith, fits.depth, ap length row);
    }

-- the name of a frame, by its rank
pub record IsPairedFrame (names : List (List ℕ)) (all : List PairedStack) (at frame rank : ℕ) : Type 0 where
  pub name : name_at (pair_at all at).stack frame ≡ name_at names rank
  pub below : rank < length names

pub paired_frame : (names : List (List ℕ)) (lefts rights : List Ranked) (places : List Place) (all : List PairedStack) (at frame : ℕ) (place : Place) (ranks : List ℕ) → ArePaired names lefts rights places
    → map (λ p. paired_of names (place_row lefts rights p)) places ≡ all → at < length all → place ≡ get_or places at place → ranks ≡ (place_row lefts rights place).0 → frame < length (pair_at all at).stack
    → IsPairedFrame names all at frame (get_or ranks frame 0)
paired_frame names lefts rights places all at frame place ranks are view lt is row deep =
    let here = pair_is names lefts rights places all at place view lt is in
    let stack : (pair_at all at).stack ≡ map (name_at names) ranks = ap (λ (pair : PairedStack). pair.stack) here ∙ ap (map (name_at names)) (sym row) in
    let inside = (paired_deep names lefts rights places all at frame place ranks are view lt is row deep).inside in
    let fits = place_fits names lefts rights are.before are.after place (is_placed lefts rights places at place are.within (pairs_within names lefts rights places all at view lt) is) in
    record {
      name = ap (λ xs. name_at xs frame) stack ∙ get_or-map (name_at names) ranks frame 0 [] inside;
      below = subst (λ xs. All (λ rank. rank < length names) xs) (sym row) fits.below frame 0 inside;
    }
