-- Joined rows, by their names, are the merged stacks.
use Rattle.std.proofs.Common.{◌≡◌, ℕ, zero, suc, ◌+◌, ◌<◌, ◌≤◌, ◌^◌, List, [], ◌∷◌, ◌++◌, Bool, true, false, true≢false, cond, ◌&&◌, nat_eq, length, map, take, drop, get_or, slice_index, All, sum_by, Some, None, T, IsTrue, inl, inr, refl, sym, ap, ◌∙◌, subst, arith, is_lt, IsPermutation}
use Rattle.std.specs.Prelude.{unwrap_or}
use Rattle.std.specs.List.{AllByRecursion}
use Rattle.std.specs.Ordering.{nat_cmp, is_eq, ordering_then, ordering_reverse}
use Rattle.std.specs.Cmp.Lexicographic.{slice_cmp, pointwise}
use Rattle.std.specs.declared.cmp.Ordering.{Ordering}
use Rattle.std.specs.declared.cmp.Ordering.TheVariants.{Less, Equal, Greater}
use Rattle.std.specs.FinMap.Entries.{is_sorted, below_all}
use Rattle.std.proofs.lemmas.Cmp.{nat_list_cmp_total, tied_itself, ranked}
use Rattle.std.proofs.lemmas.Slice.Eq.{bytes_eq-Decides}
use Rattle.std.proofs.lemmas.List.Elements.{All-head, All-tail, All-push, All-take, All-drop, All-from_recursion, recursion_from_All}
use Rattle.std.proofs.lemmas.List.Sorted.{IsPermutation-map, sum_by-IsPermutation, All-permutation}
use Rattle.std.proofs.lemmas.List.Sums.{sum_by-cons, sum_by-append}
use Rattle.std.proofs.lemmas.List.{map-append, length-map, get_or-map, take_at, take-map, drop-map, append_assoc, append-nil, take_more, drop_more}
use Rattle.std.proofs.Math.Seq.{drop-append_seam}
use Rattle.sample_tables.specs.declared.samples.Sample.{Sample}
use Rattle.sample_tables.specs.declared.samples.TheConstants.{FRAME_LIMIT}
use Rattle.std.proofs.lemmas.Bool.{lt-ltb}
use Rattle.stack_core.specs.Ledgers.{ListState}
use Rattle.sample_tables.specs.Rows.{name_at, sample_at}
use Rattle.merged_stacks.specs.Order.{stack_cmp, AreRising}
use Rattle.merged_stacks.specs.Timeline.{Stack, total_weight, samples_of}
use Rattle.merged_stacks.specs.Merged.{weighed, Weighed, sum_at, merged, merged_samples, all_samples, are_in_order, weight_at, if_positive}
use Rattle.merged_stacks.specs.RankedStacks.{Ranking, ranked_samples, ranks_at, sample_of}
use Rattle.merged_stacks.specs.checked.Ranks.{AreRanks, all_told}
use Rattle.merged_stacks.specs.checked.Ranked.{Ranked, join_front, joined, AreAscending, named_row, named_rows, IsRankedStack, IsNamedBy, HasSums, AreMerged}
use Rattle.ranked_rows.specs.Gathering.{HasRanks, IsGathered, with_more}
use Rattle.ranked_rows.proofs.JoinedRows.{joined-total}
use Rattle.ranked_rows.proofs.RankedNames.{above}
use Rattle.merged_stacks.proofs.MergedRows.{stack_cmp_total, sum_at-cons, sum_at-append, sum_at-one, sum_at-rows, merged-only, is_true, as_true, first, second}

-- ---- joining keeps each stack's sum

split : (b : Bool) (x y n : ℕ) → cond b (x + y) 0 + n ≡ cond b y 0 + (cond b x 0 + n)
split true x y n = omega arith
split false x y n = omega arith

front-sum : (names : List (List ℕ)) (row : Ranked) (rows : List Ranked) (q : Stack) → sum_at (named_rows names (join_front row rows)) q ≡ sum_at (named_rows names (row ∷ rows)) q
front-sum names row [] q = refl
front-sum names row (one ∷ rows) q = by (pointwise nat_eq one.0 row.0) refl
  where
    stack : Ranked → Stack
    stack r = (named_row names r).0

    by : (b : Bool) → pointwise nat_eq one.0 row.0 ≡ b → sum_at (named_rows names (cond b ((one.0, one.1 + row.1) ∷ rows) (row ∷ one ∷ rows))) q ≡ sum_at (named_rows names (row ∷ one ∷ rows)) q
    by false e = refl
    by true e =
        let same : stack one ≡ stack row = ap (map (name_at names)) ((bytes_eq-Decides one.0 row.0).0 e) in
        let rest = named_rows names rows in
        sum_at-cons (stack one, one.1 + row.1) rest q ∙ split (is_eq (stack_cmp q (stack one))) one.1 row.1 (sum_at rest q)
        ∙ (λ i. cond (is_eq (stack_cmp q (same i))) row.1 0 + sym (sum_at-cons (named_row names one) rest q) i) ∙ sym (sum_at-cons (named_row names row) (named_rows names (one ∷ rows)) q)

pub joined-sum : (names : List (List ℕ)) (rows : List Ranked) (q : Stack) → sum_at (named_rows names (joined rows)) q ≡ sum_at (named_rows names rows) q
joined-sum names [] q = refl
joined-sum names (row ∷ rows) q =
    front-sum names row (joined rows) q ∙ sum_at-cons (named_row names row) (named_rows names (joined rows)) q
    ∙ ap (λ n. cond (is_eq (stack_cmp q (named_row names row).0)) row.1 0 + n) (joined-sum names rows q) ∙ sym (sum_at-cons (named_row names row) (named_rows names rows) q)

-- sorting does too
pub sorted-sum_at : (xs ys : List Weighed) (q : Stack) → IsPermutation xs ys → sum_at ys q ≡ sum_at xs q
unfolding sum_at
sorted-sum_at xs ys q p = sum_by-IsPermutation (λ (s : Weighed). cond (is_eq (stack_cmp q s.0)) s.1 0) xs ys p

-- ---- each joined row is as the rows are

pub joined-each : (names : List (List ℕ)) (rows : List Ranked) → AllByRecursion (IsRankedStack names) rows → AllByRecursion (IsRankedStack names) (joined rows)
joined-each names [] h = tt
joined-each names (row ∷ rows) h = front (joined rows) (joined-each names rows h.1)
  where
    front : (all : List Ranked) → AllByRecursion (IsRankedStack names) all → AllByRecursion (IsRankedStack names) (join_front row all)
    front [] g = (h.0, tt)
    front (one ∷ all) g = by (pointwise nat_eq one.0 row.0)
      where
        by : (b : Bool) → AllByRecursion (IsRankedStack names) (cond b ((one.0, one.1 + row.1) ∷ all) (row ∷ one ∷ all))
        by true = (record { below = g.0.below; depth = g.0.depth; positive = omega (arith, g.0.positive) }, g.1)
        by false = (h.0, g)

-- ---- the order of ranks is that of names

names_rise : (names : List (List ℕ)) → AreRising names → (x y : ℕ) → x < length names → y < length names → slice_cmp nat_cmp (name_at names x) (name_at names y) ≡ nat_cmp x y
names_rise names rising x y lx ly = by (nat_cmp x y) refl
  where
    by : (o : Ordering) → o ≡ nat_cmp x y → slice_cmp nat_cmp (name_at names x) (name_at names y) ≡ o
    by Less e = rising x y (ranked x y Less e) ly
    by Equal e = ap (λ n. slice_cmp nat_cmp (name_at names x) (name_at names n)) (sym (ranked x y Equal e)) ∙ tied_itself nat_list_cmp_total (name_at names x)
    by Greater e = nat_list_cmp_total.antisymm (name_at names x) (name_at names y) ∙ ap ordering_reverse (rising y x (ranked x y Greater e) lx)

pub stacks_rise : (names : List (List ℕ)) → AreRising names → (xs ys : List ℕ) → All (λ rank. rank < length names) xs → All (λ rank. rank < length names) ys
    → stack_cmp (map (name_at names) xs) (map (name_at names) ys) ≡ slice_cmp nat_cmp xs ys
stacks_rise names rising [] [] a b = refl
stacks_rise names rising [] (y ∷ ys) a b = refl
stacks_rise names rising (x ∷ xs) [] a b = refl
stacks_rise names rising (x ∷ xs) (y ∷ ys) a b =
    let P = λ (rank : ℕ). rank < length names in
    λ i. ordering_then (names_rise names rising x y (All-head P x xs a) (All-head P y ys b) i) (stacks_rise names rising xs ys (All-tail P x xs a) (All-tail P y ys b) i)

-- ---- joined rows rise

pub less_from : (o : Ordering) → T (is_lt o) → o ≡ Less
less_from Less h = refl
less_from Equal h = absurd h
less_from Greater h = absurd h

pub both : (a b : Bool) → T a → T b → T (a && b)
both true b p q = q
both false b p q = absurd p

pub below_far : (a b : Stack) (rows : List Weighed) → stack_cmp a b ≡ Less → T (below_all stack_cmp b rows) → T (below_all stack_cmp a rows)
below_far a b [] e h = tt
below_far a b (row ∷ rows) e h =
    let here = first (is_lt (stack_cmp b row.0)) (below_all stack_cmp b rows) h in
    both (is_lt (stack_cmp a row.0)) (below_all stack_cmp a rows)
    (as_true _ (ap is_lt (stack_cmp_total.trans a b row.0 e (less_from _ here))))
    (below_far a b rows e (second (is_lt (stack_cmp b row.0)) (below_all stack_cmp b rows) h))

-- the first of the joined rows has the first row's ranks
HasFirst : List ℕ → List Ranked → Type 0
HasFirst ranks [] = ⊥
HasFirst ranks (row ∷ rows) = row.0 ≡ ranks

front-first : (row : Ranked) (rows : List Ranked) → HasFirst row.0 (join_front row rows)
unfolding HasFirst
front-first row [] = refl
front-first row (one ∷ rows) = by (pointwise nat_eq one.0 row.0) refl
  where
    by : (b : Bool) → pointwise nat_eq one.0 row.0 ≡ b → HasFirst row.0 (cond b ((one.0, one.1 + row.1) ∷ rows) (row ∷ one ∷ rows))
    by true e = (bytes_eq-Decides one.0 row.0).0 e
    by false e = refl

module _ (names : List (List ℕ)) (rising : AreRising names) where
  IsInOrder : List Ranked → Type 0
  IsInOrder rows = T (is_sorted stack_cmp (named_rows names rows))

  front-order : (row : Ranked) (ranks : List ℕ) (rows : List Ranked) → IsRankedStack names row → AllByRecursion (IsRankedStack names) rows → is_lt (slice_cmp nat_cmp ranks row.0) ≡ false → HasFirst ranks rows
      → IsInOrder rows → IsInOrder (join_front row rows)
  unfolding IsInOrder HasFirst
  front-order row ranks [] r h up f g = absurd f
  front-order row ranks (one ∷ rows) r h up f g = by (pointwise nat_eq one.0 row.0) refl
    where
      stack : Ranked → Stack
      stack x = (named_row names x).0

      by : (b : Bool) → pointwise nat_eq one.0 row.0 ≡ b → T (is_sorted stack_cmp (named_rows names (cond b ((one.0, one.1 + row.1) ∷ rows) (row ∷ one ∷ rows))))
      by true e = g
      by false e =
          let other : one.0 ≡ row.0 → ⊥ = λ q. true≢false (sym ((bytes_eq-Decides one.0 row.0).1 q) ∙ e) in
          let less : stack_cmp (stack row) (stack one) ≡ Less =
          stacks_rise names rising row.0 one.0 r.below h.0.below ∙ above row.0 one.0 (ap (λ xs. is_lt (slice_cmp nat_cmp xs row.0)) f ∙ up) (λ q. other (sym q)) in
          both (is_lt (stack_cmp (stack row) (stack one)) && below_all stack_cmp (stack row) (named_rows names rows)) (is_sorted stack_cmp (named_rows names (one ∷ rows)))
          (both (is_lt (stack_cmp (stack row) (stack one))) (below_all stack_cmp (stack row) (named_rows names rows)) (as_true _ (ap is_lt less))
          (below_far (stack row) (stack one) (named_rows names rows) less (first (below_all stack_cmp (stack one) (named_rows names rows)) (is_sorted stack_cmp (named_rows names rows)) g)))
          g

  pub joined-order : (rows : List Ranked) → AllByRecursion (IsRankedStack names) rows → AreAscending rows → T (are_in_order (named_rows names (joined rows)))
  unfolding IsInOrder
  joined-order [] h up = tt
  joined-order (row ∷ []) h up = tt
  joined-order (row ∷ next ∷ rows) h up =
      front-order row next.0 (joined (next ∷ rows)) h.0 (joined-each names (next ∷ rows) h.1) up.0 (front-first next (joined rows)) (joined-order (next ∷ rows) h.1 up.1)

-- ---- rows in order, with weight, that have the sums of samples are merged

found_positive : (rows : List Weighed) (q : Stack) → AllByRecursion (λ row. 0 < row.1) rows → weight_at rows q ≡ if_positive (unwrap_or (weight_at rows q) 0)
found_positive [] q h = refl
found_positive (row ∷ rows) q h = by (is_eq (stack_cmp q row.0)) (found_positive rows q h.1)
  where
    by : (b : Bool) → weight_at rows q ≡ if_positive (unwrap_or (weight_at rows q) 0) → cond b (Some row.1) (weight_at rows q) ≡ if_positive (unwrap_or (cond b (Some row.1) (weight_at rows q)) 0)
    by true ih = sym (ap (λ b. cond b (Some row.1) None) (lt-ltb 0 row.1 h.0))
    by false ih = ih

pub rows_merged : (rows samples : List Weighed) → T (are_in_order rows) → AllByRecursion (λ row. 0 < row.1) rows → ((q : Stack) → sum_at rows q ≡ sum_at samples q) → rows ≡ merged samples
rows_merged rows samples ordered positive same =
    merged-only samples rows ordered (λ q. found_positive rows q positive ∙ ap if_positive (sym (sum_at-rows rows q ordered) ∙ same q))

pub rows_positive : (names : List (List ℕ)) (rows : List Ranked) → AllByRecursion (IsRankedStack names) rows → AllByRecursion (λ row. 0 < row.1) (named_rows names rows)
rows_positive names [] h = tt
rows_positive names (row ∷ rows) h = (h.0.positive, rows_positive names rows h.1)

-- ---- the merged stacks

pub weighed_rows : (names : List (List ℕ)) (rows : List Ranked) → weighed (map (sample_of names) rows) ≡ named_rows names rows
weighed_rows names [] = refl
weighed_rows names (row ∷ rows) = ap (λ all. named_row names row ∷ all) (weighed_rows names rows)

pub samples_positive : (names : List (List ℕ)) (rows : List Ranked) → AllByRecursion (IsRankedStack names) rows → AllByRecursion (λ (sample : Sample). 0 < sample.weight) (map (sample_of names) rows)
samples_positive names [] h = tt
samples_positive names (row ∷ rows) h = (h.0.positive, samples_positive names rows h.1)

pub samples_total : (names : List (List ℕ)) (rows : List Ranked) → total_weight (map (sample_of names) rows) ≡ sum_by (λ (row : Ranked). row.1) rows
samples_total names [] = refl
samples_total names (row ∷ rows) =
    sum_by-cons (λ (sample : Sample). sample.weight) (sample_of names row) (map (sample_of names) rows) ∙ ap (λ n. row.1 + n) (samples_total names rows) ∙ sym (sum_by-cons (λ (row : Ranked). row.1) row rows)

-- merged rows as their samples, which callers see
module _ (names : List (List ℕ)) (rows : List Ranked) (all : List Sample) (seen : map (sample_of names) rows ≡ all) where
  pub seen_in_order : AreMerged names rows → IsTrue (are_in_order (weighed all))
  seen_in_order h = ap (λ samples. are_in_order (weighed samples)) (sym seen) ∙ ap are_in_order (weighed_rows names rows) ∙ h.ordered

  pub seen_positive : AreMerged names rows → All (λ (sample : Sample). 0 < sample.weight) all
  seen_positive h =
      subst (λ (samples : List Sample). All (λ sample. 0 < sample.weight) samples) seen
      (All-from_recursion (λ (sample : Sample). 0 < sample.weight) (map (sample_of names) rows) (samples_positive names rows h.each))

  pub seen_total : total_weight all ≡ sum_by (λ (row : Ranked). row.1) rows
  seen_total = ap total_weight (sym seen) ∙ samples_total names rows

unweighed : (names : List (List ℕ)) (rows : List Ranked) → map (λ (row : Weighed). (let s : Sample = record { stack = row.0; weight = row.1 } in s)) (named_rows names rows) ≡ map (sample_of names) rows
unweighed names [] = refl
unweighed names (row ∷ rows) = ap (λ all. sample_of names row ∷ all) (unweighed names rows)

module _ (names : List (List ℕ)) (samples : List Sample) (rows sorted : List Ranked) (rising : AreRising names) (sums : HasSums names samples rows) (perm : IsPermutation rows sorted) (up : AreAscending sorted) where
  each-sorted : AllByRecursion (IsRankedStack names) sorted
  each-sorted = recursion_from_All (IsRankedStack names) sorted (All-permutation (IsRankedStack names) rows sorted perm (All-from_recursion (IsRankedStack names) rows sums.each))

  pub are_merged : total_weight samples < 2 ^ 64 → AreMerged names (joined sorted)
  are_merged small = record {
    rising = rising;
    each = joined-each names sorted each-sorted;
    ordered = is_true _ (joined-order names rising sorted each-sorted up);
    total = omega (arith, small, joined-total sorted, sum_by-IsPermutation (λ (row : Ranked). row.1) rows sorted perm, sums.total);
  }

  -- each stack's sum
  pub merged_sum : (stack : Stack) → sum_at (named_rows names (joined sorted)) stack ≡ sum_at (weighed samples) stack
  merged_sum q = joined-sum names sorted q ∙ sorted-sum_at (named_rows names rows) (named_rows names sorted) q (IsPermutation-map (named_row names) rows sorted perm) ∙ sums.sums q

  pub merged_are : map (sample_of names) (joined sorted) ≡ merged_samples samples
  merged_are =
      sym (unweighed names (joined sorted))
      ∙ ap (map (λ (row : Weighed). (let s : Sample = record { stack = row.0; weight = row.1 } in s)))
      (rows_merged (named_rows names (joined sorted)) (weighed samples) (joined-order names rising sorted each-sorted up) (rows_positive names (joined sorted) (joined-each names sorted each-sorted))
      merged_sum)

-- ---- rows that have the sums of samples

pub no_sums : (names : List (List ℕ)) → HasSums names [] []
no_sums names = record { sums = λ q. refl; total = refl; each = tt }

-- a row that weighs more
module _ (names : List (List ℕ)) (more : ℕ) where
  more-sum_at : (rows : List Ranked) (at : ℕ) (q : Stack) → at < length rows
      → sum_at (named_rows names (with_more rows at more)) q ≡ sum_at (named_rows names rows) q + cond (is_eq (stack_cmp q (map (name_at names) (get_or rows at ([], 0)).0))) more 0
  more-sum_at [] at q lt = absurd (omega (arith, lt))
  more-sum_at (row ∷ rows) zero q lt =
      let stack : Stack = map (name_at names) row.0 in
      let rest = named_rows names rows in
      omega (arith, sum_at-cons (stack, row.1 + more) rest q, split (is_eq (stack_cmp q stack)) row.1 more (sum_at rest q), sum_at-cons (stack, row.1) rest q)
  more-sum_at (row ∷ rows) (suc at) q lt =
      omega (arith, sum_at-cons (named_row names row) (named_rows names (with_more rows at more)) q, more-sum_at rows at q (omega (arith, lt)), sum_at-cons (named_row names row) (named_rows names rows) q)

  more-total : (rows : List Ranked) (at : ℕ) → at < length rows → sum_by (λ (row : Ranked). row.1) (with_more rows at more) ≡ sum_by (λ (row : Ranked). row.1) rows + more
  more-total [] at lt = absurd (omega (arith, lt))
  more-total (row ∷ rows) zero lt = omega (arith, sum_by-cons (λ (row : Ranked). row.1) (row.0, row.1 + more) rows, sum_by-cons (λ (row : Ranked). row.1) row rows)
  more-total (row ∷ rows) (suc at) lt =
      omega (arith, sum_by-cons (λ (row : Ranked). row.1) row (with_more rows at more), more-total rows at (omega (arith, lt)), sum_by-cons (λ (row : Ranked). row.1) row rows)

  more-each : (rows : List Ranked) (at : ℕ) → AllByRecursion (IsRankedStack names) rows → AllByRecursion (IsRankedStack names) (with_more rows at more)
  more-each [] at h = tt
  more-each (row ∷ rows) zero h = (record { below = h.0.below; depth = h.0.depth; positive = omega (arith, h.0.positive) }, h.1)
  more-each (row ∷ rows) (suc at) h = (h.0, more-each rows at h.1)

module _ (names : List (List ℕ)) (samples : List Sample) (rows : List Ranked) (sums : HasSums names samples rows) (s : Sample) where
  more_total : total_weight (samples ++ s ∷ []) ≡ total_weight samples + s.weight
  more_total = sum_by-append (λ (sample : Sample). sample.weight) samples (s ∷ []) ∙ omega (arith, sum_by-cons (λ (sample : Sample). sample.weight) s [])

  more_sum : (q : Stack) → sum_at (weighed (samples ++ s ∷ [])) q ≡ sum_at (weighed samples) q + cond (is_eq (stack_cmp q s.stack)) s.weight 0
  more_sum q =
      ap (λ all. sum_at all q) (map-append (λ (sample : Sample). (sample.stack, sample.weight)) samples (s ∷ [])) ∙ sum_at-append (weighed samples) ((s.stack, s.weight) ∷ []) q ∙ ap (λ n. sum_at (weighed samples) q + n) (sum_at-one (s.stack, s.weight) q)

  sums_more : (ranks : List ℕ) → map (name_at names) ranks ≡ s.stack → All (λ rank. rank < length names) ranks → length ranks ≤ FRAME_LIMIT → 0 < s.weight
      → HasSums names (samples ++ s ∷ []) (rows ++ (ranks, s.weight) ∷ [])
  sums_more ranks named below depth positive = record {
    sums = λ q. ap (λ all. sum_at all q) (map-append (named_row names) rows ((ranks, s.weight) ∷ [])) ∙ sum_at-append (named_rows names rows) ((map (name_at names) ranks, s.weight) ∷ []) q
        ∙ (λ i. sums.sums q i + sum_at-one (named i, s.weight) q i) ∙ sym (more_sum q);
    total = sum_by-append (λ (row : Ranked). row.1) rows ((ranks, s.weight) ∷ []) ∙ omega (arith, sums.total, more_total, sum_by-cons (λ (row : Ranked). row.1) (ranks, s.weight) []);
    each = recursion_from_All (IsRankedStack names) _ (All-push (IsRankedStack names) rows (ranks, s.weight) (All-from_recursion (IsRankedStack names) rows sums.each) (record { below = below; depth = depth; positive = positive }));
  }

  sums_joined : (ranks : List ℕ) (at : ℕ) → map (name_at names) ranks ≡ s.stack → HasRanks ranks rows at → HasSums names (samples ++ s ∷ []) (with_more rows at s.weight)
  sums_joined ranks at named has = record {
    sums = λ q. more-sum_at names s.weight rows at q has.within ∙ (λ i. sums.sums q i + cond (is_eq (stack_cmp q ((ap (map (name_at names)) has.same ∙ named) i))) s.weight 0) ∙ sym (more_sum q);
    total = omega (arith, more-total names s.weight rows at has.within, sums.total, more_total);
    each = more-each names s.weight rows at sums.each;
  }

  -- a row that comes stands behind the others, or is added to one
  pub sums_gathered : (ranks : List ℕ) (new : List Ranked) → map (name_at names) ranks ≡ s.stack → All (λ rank. rank < length names) ranks → length ranks ≤ FRAME_LIMIT → 0 < s.weight
      → IsGathered (ranks, s.weight) rows new → HasSums names (samples ++ s ∷ []) new
  sums_gathered ranks new named below depth positive (inl is) = subst (HasSums names (samples ++ s ∷ [])) (sym is) (sums_more ranks named below depth positive)
  sums_gathered ranks new named below depth positive (inr found) = subst (HasSums names (samples ++ s ∷ [])) (sym found.2) (sums_joined ranks found.0 named found.1)

  none : (b : Bool) (n : ℕ) → n ≡ 0 → cond b n 0 ≡ 0
  none true n e = e
  none false n e = refl

  pub sums_same : s.weight ≡ 0 → HasSums names (samples ++ s ∷ []) rows
  sums_same empty = record {
    sums = λ q. sums.sums q ∙ omega (arith, more_sum q, none (is_eq (stack_cmp q s.stack)) s.weight empty);
    total = omega (arith, sums.total, more_total, empty);
    each = sums.each;
  }

-- ---- ranks of told names

pub ranks_name : (told names : List (List ℕ)) (ranks : List ℕ) → AreRanks told names ranks → IsNamedBy names ranks told
ranks_name told names ranks h = record { below = h.below; named = h.named }

pub ranked_stack : (names told : List (List ℕ)) (ranks numbers : List ℕ) → IsNamedBy names ranks told → All (λ number. number < length told) numbers → map (name_at names) (map (slice_index ranks) numbers) ≡ map (name_at told) numbers
ranked_stack names told ranks [] h known = refl
ranked_stack names told ranks (number ∷ numbers) h known =
    let P = λ (number : ℕ). number < length told in
    let lt : number < length ranks = omega (arith, All-head P number numbers known, ap length h.named, length-map ranks (name_at names)) in
    let here : name_at names (slice_index ranks number) ≡ name_at told number = sym (get_or-map (name_at names) ranks number 0 [] lt) ∙ ap (λ xs. name_at xs number) h.named in
    λ i. here i ∷ ranked_stack names told ranks numbers h (All-tail P number numbers known) i

pub ranked_below : (names told : List (List ℕ)) (ranks numbers : List ℕ) → IsNamedBy names ranks told → All (λ number. number < length told) numbers → All (λ rank. rank < length names) (map (slice_index ranks) numbers)
ranked_below names told ranks numbers h known k d lt =
    let inside : k < length numbers = omega (arith, length-map numbers (slice_index ranks)) in
    let number : get_or numbers k 0 < length ranks = omega (arith, known k 0 inside, ap length h.named, length-map ranks (name_at names)) in
    subst (λ rank. rank < length names) (sym (get_or-map (slice_index ranks) numbers k 0 d inside)) (h.below (get_or numbers k 0) 0 number)

pub named_front : (names : List (List ℕ)) (ranks : List ℕ) (a b : List (List ℕ)) → IsNamedBy names ranks (a ++ b) → IsNamedBy names (take (length a) ranks) a
named_front names ranks a b h = record {
  below = All-take (λ rank. rank < length names) (length a) ranks h.below;
  named = sym (take-map (name_at names) (length a) ranks) ∙ ap (take (length a)) h.named ∙ take_at a b (length a) refl;
}

pub named_rest : (names : List (List ℕ)) (ranks : List ℕ) (a b : List (List ℕ)) → IsNamedBy names ranks (a ++ b) → IsNamedBy names (drop (length a) ranks) b
named_rest names ranks a b h = record {
  below = All-drop (λ rank. rank < length names) (length a) ranks h.below;
  named = sym (drop-map (name_at names) (length a) ranks) ∙ ap (drop (length a)) h.named ∙ drop-append_seam a b;
}

-- ---- the lists

all_samples-append : (xs ys : List (List Sample)) → all_samples (xs ++ ys) ≡ all_samples xs ++ all_samples ys
all_samples-append [] ys = refl
all_samples-append (samples ∷ xs) ys = ap (λ all. samples ++ all) (all_samples-append xs ys) ∙ sym (append_assoc samples (all_samples xs) (all_samples ys))

pub all_samples-more : {A : Type 0} (f : A → List Sample) (all : List A) (i : ℕ) (one : A) → i < length all → one ≡ get_or all i one → all_samples (map f (take (i + 1) all)) ≡ all_samples (map f (take i all)) ++ f one
all_samples-more f all i one lt is =
    ap (λ front. all_samples (map f front)) (take_more all i one lt) ∙ ap all_samples (map-append f (take i all) (get_or all i one ∷ []))
    ∙ all_samples-append (map f (take i all)) (f (get_or all i one) ∷ []) ∙ ap (λ samples. all_samples (map f (take i all)) ++ samples) (append-nil (f (get_or all i one)) ∙ ap f (sym is))

-- the weight of all samples is that of all lists
pub all_weight : (lists : List ListState) → total_weight (all_samples (samples_of lists)) ≡ sum_by (λ list. total_weight list.samples) lists
all_weight [] = refl
all_weight (list ∷ lists) =
    sum_by-append (λ (sample : Sample). sample.weight) list.samples (all_samples (samples_of lists)) ∙ ap (λ n. total_weight list.samples + n) (all_weight lists)
    ∙ sym (sum_by-cons (λ (list : ListState). total_weight list.samples) list lists)

one_total : (lists : List (List Sample)) (i : ℕ) → i < length lists → total_weight (get_or lists i []) ≤ total_weight (all_samples lists)
one_total [] i lt = absurd (omega arith)
one_total (samples ∷ lists) zero lt = omega (arith, sum_by-append (λ (sample : Sample). sample.weight) samples (all_samples lists))
one_total (samples ∷ lists) (suc i) lt = omega (arith, one_total lists i (omega arith), sum_by-append (λ (sample : Sample). sample.weight) samples (all_samples lists))

-- no list weighs more than all of them
pub list_total : (lists : List ListState) (i : ℕ) (list : ListState) → i < length lists → list ≡ get_or lists i list → total_weight list.samples ≤ total_weight (all_samples (samples_of lists))
list_total lists i list lt is =
    let here : total_weight (get_or (samples_of lists) i []) ≡ total_weight list.samples = ap total_weight (get_or-map (λ (list : ListState). list.samples) lists i list [] lt ∙ ap (λ (l : ListState). l.samples) (sym is)) in
    omega (arith, here, one_total (samples_of lists) i (omega (arith, length-map lists (λ (list : ListState). list.samples))))

pub all_told-more : (lists : List ListState) (i : ℕ) (list : ListState) → i < length lists → list ≡ get_or lists i list → all_told (drop i lists) ≡ list.told ++ all_told (drop (i + 1) lists)
all_told-more lists i list lt is = ap all_told (drop_more lists i list lt) ∙ ap (λ (l : ListState). l.told ++ all_told (drop (i + 1) lists)) (sym is)

-- ---- names of merged stacks

-- no two names are the same
pub names_distinct : (names : List (List ℕ)) → AreRising names → (r s : ℕ) → r < length names → s < length names → name_at names r ≡ name_at names s → r ≡ s
names_distinct names rising r s lr ls e = by (nat_cmp r s) refl
  where
    same : slice_cmp nat_cmp (name_at names r) (name_at names s) ≡ Equal
    same = ap (λ n. slice_cmp nat_cmp n (name_at names s)) e ∙ tied_itself nat_list_cmp_total (name_at names s)

    by : (o : Ordering) → o ≡ nat_cmp r s → r ≡ s
    by Less h = let no : Less ≡ Equal = h ∙ sym (names_rise names rising r s lr ls) ∙ same in cc
    by Equal h = ranked r s Equal h
    by Greater h = let no : Greater ≡ Equal = h ∙ sym (names_rise names rising r s lr ls) ∙ same in cc

-- a stack that callers see has the names of its ranks
pub stack_named : (all : Ranking) (at : ℕ) → at < length (ranked_samples all) → (sample_at (ranked_samples all) at).stack ≡ map (name_at all.names) (ranks_at all at)
stack_named all at lt = ap (λ (s : Sample). s.stack) (get_or-map (sample_of all.names) all.rows at ([], 0) (record { stack = []; weight = 0 }) (omega (arith, lt, length-map all.rows (sample_of all.names))))

-- a frame that callers see has the name of its rank
pub record IsFrame (all : Ranking) (at frame : ℕ) : Type 0 where
  pub row : at < length all.rows
  pub inside : frame < length (ranks_at all at)
  pub name : name_at (sample_at (ranked_samples all) at).stack frame ≡ name_at all.names (slice_index (ranks_at all at) frame)

pub frame_at : (all : Ranking) (at frame : ℕ) → at < length (ranked_samples all) → frame < length (sample_at (ranked_samples all) at).stack → IsFrame all at frame
frame_at all at frame lt deep =
    let stack = stack_named all at lt in
    let inside : frame < length (ranks_at all at) = omega (arith, deep, ap length stack, length-map (ranks_at all at) (name_at all.names)) in
    record {
      row = omega (arith, lt, length-map all.rows (sample_of all.names));
      inside = inside;
      name = ap (λ xs. name_at xs frame) stack ∙ get_or-map (name_at all.names) (ranks_at all at) frame 0 [] inside;
    }
