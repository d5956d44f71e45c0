-- the rows of a comparison, from the charts of both sides
use Rattle.std.proofs.Common.{◌≡◌, ℕ, ◌+◌, ◌<◌, List, [], ◌∷◌, ◌++◌, Bool, true, false, cond, length, map, filter, ltb, T, sym, ◌∙◌, ap, subst, refl, arith, inr, Option, None, Some, ⊎_elim}
use Rattle.std.specs.List.{AllByRecursion}
use Rattle.std.specs.Ordering.{is_eq, is_lt}
use Rattle.std.specs.FinMap.Entries.{is_sorted, below_all}
use Rattle.std.proofs.lemmas.List.{map-append}
use Rattle.std.proofs.lemmas.Bool.{ltb-true, lt-ltb, cases_lt}
use Rattle.sample_tables.specs.declared.samples.Sample.{Sample}
use Rattle.flame_layout.specs.declared.boxes.SpanBox.{SpanBox}
use Rattle.flame_layout.specs.declared.boxes.PairRow.{PairRow}
use Rattle.flame_layout.specs.declared.boxes.ComparedBox.{ComparedBox}
use Rattle.merged_stacks.specs.declared.paired_sides.Side.TheVariants.{Before, After}
use Rattle.merged_stacks.specs.Timeline.{Stack, drawn, total_weight}
use Rattle.merged_stacks.specs.Order.{stack_cmp}
use Rattle.merged_stacks.specs.Merged.{Weighed, weighed, sum_at, stacks_of, merged, merged_samples, are_in_order}
use Rattle.merged_stacks.specs.Paired.{paired_at, paired_stacks, side_samples}
use Rattle.merged_stacks.proofs.JoinedStacks.{less_from}
use Rattle.merged_stacks.proofs.MergedRows.{first, second, sum_at-nil, sum_at-cons, sum_at-append, sum_at-merged, merged-in_order}
use Rattle.flame_layout.specs.Chart.{chart_of, first_new}
use Rattle.flame_layout.specs.Graph.{sorted_by_stack}
use Rattle.flame_layout.specs.Paths.{paths_from, paths_after, paths_of, boxes_of_visits}
use Rattle.flame_layout.specs.Comparison.{row_of, comparison_of, compared_boxes_of}
use Rattle.flame_layout.specs.checked.Paired.{paired_boxes, paired_row, paired_rows, row_box}
use Rattle.flame_layout.proofs.Order.{Lt, Le, Lt-irrefl}
use Rattle.flame_layout.proofs.Ascending.{each-weaker, IsAscending}
use Rattle.flame_layout.proofs.PathWords.{path_own, path_total, visit_of, total_at-is, own_at-is}
use Rattle.flame_layout.proofs.Visits.{path_own-cons, own_at_path-same, own_at_path-other, own-part, ascending-visits}
use Rattle.flame_layout.proofs.Sums.{SameSums, same_sums, same_totals, same_tested, same_paths}
use Rattle.flame_layout.proofs.MergedSums.{Decides-order, sum_at-own, merged_own, weighed_back, sorted_already, drawn_already}
use Rattle.flame_layout.proofs.ComparedBoxes.{boxes_of_rows, rows_boxes}
use Rattle.flame_layout.proofs.Chained.{PathsGoOn, chained_paths, visited_box, next_is}

-- the stacks of rows as samples, with weights of their own, and with other ones
abbrev pub as_samples : List Weighed → List Sample
as_samples rows = map (λ row. record { stack = row.0; weight = row.1 }) rows

abbrev pub sided : (Stack → ℕ) → List Weighed → List Sample
sided weigh rows = map (λ row. record { stack = row.0; weight = weigh row.0 }) rows

before_sided : (before after : List Sample) (rows : List Weighed) → side_samples Before (map (λ (row : Weighed). paired_at before after row.0) rows) ≡ sided (sum_at (weighed before)) rows
before_sided before after [] = refl
before_sided before after (row ∷ rows) =
    let here : Sample = record { stack = row.0; weight = sum_at (weighed before) row.0 } in
    ap (λ samples. here ∷ samples) (before_sided before after rows)

after_sided : (before after : List Sample) (rows : List Weighed) → side_samples After (map (λ (row : Weighed). paired_at before after row.0) rows) ≡ sided (sum_at (weighed after)) rows
after_sided before after [] = refl
after_sided before after (row ∷ rows) =
    let here : Sample = record { stack = row.0; weight = sum_at (weighed after) row.0 } in
    ap (λ samples. here ∷ samples) (after_sided before after rows)

-- ---- they rise

above : (stack : Stack) (weigh : Stack → ℕ) (rows : List Weighed) → T (below_all stack_cmp stack rows) → AllByRecursion (λ s. Lt stack s.stack) (sided weigh rows)
above stack weigh [] h = tt
above stack weigh (row ∷ rows) h =
    (less_from (stack_cmp stack row.0) (first (is_lt (stack_cmp stack row.0)) (below_all stack_cmp stack rows) h), above stack weigh rows (second (is_lt (stack_cmp stack row.0)) (below_all stack_cmp stack rows) h))

sided-ascending : (weigh : Stack → ℕ) (rows : List Weighed) → T (are_in_order rows) → IsAscending (sided weigh rows)
sided-ascending weigh [] h = tt
sided-ascending weigh (row ∷ rows) h = (
  each-weaker (λ (s : Sample). Lt row.0 s.stack) (λ (s : Sample). Le row.0 s.stack) (λ s l. inr l) (sided weigh rows)
      (above row.0 weigh rows (first (below_all stack_cmp row.0 rows) (is_sorted stack_cmp rows) h)),
  sided-ascending weigh rows (second (below_all stack_cmp row.0 rows) (is_sorted stack_cmp rows) h),
)

-- ---- their sums

none-own : (path : Stack) (weigh : Stack → ℕ) (rows : List Weighed) → T (below_all stack_cmp path rows) → path_own path (sided weigh rows) ≡ 0
none-own path weigh [] h = refl
none-own path weigh (row ∷ rows) h =
    let here : Sample = record { stack = row.0; weight = weigh row.0 } in
    let below : Lt path row.0 = less_from (stack_cmp path row.0) (first (is_lt (stack_cmp path row.0)) (below_all stack_cmp path rows) h) in
    let rest : path_own path (sided weigh rows) ≡ 0 = none-own path weigh rows (second (is_lt (stack_cmp path row.0)) (below_all stack_cmp path rows) h) in
    path_own-cons path here (sided weigh rows) ∙ (λ i. own_at_path-other path here (λ e. Lt-irrefl path (subst (Lt path) (sym e) below)) i + rest i)

-- a stack's own sum is its weight, where a stack without a row weighs nothing
sided-own : (path : Stack) (weigh : Stack → ℕ) (rows : List Weighed) → T (are_in_order rows) → (sum_at rows path ≡ 0 → weigh path ≡ 0) → path_own path (sided weigh rows) ≡ weigh path
sided-own path weigh [] h none = sym (none (sum_at-nil path))
sided-own path weigh (row ∷ rows) h none = by (is_eq (stack_cmp path row.0)) refl (sided-own path weigh rows (second (below_all stack_cmp row.0 rows) (is_sorted stack_cmp rows) h))
  where
    here : Sample
    here = record { stack = row.0; weight = weigh row.0 }

    lower : T (below_all stack_cmp row.0 rows)
    lower = first (below_all stack_cmp row.0 rows) (is_sorted stack_cmp rows) h

    by : (b : Bool) → is_eq (stack_cmp path row.0) ≡ b → ((sum_at rows path ≡ 0 → weigh path ≡ 0) → path_own path (sided weigh rows) ≡ weigh path) → path_own path (sided weigh (row ∷ rows)) ≡ weigh path
    by true e ih =
        let same : path ≡ row.0 = (Decides-order path row.0).0 e in
        let rest : path_own path (sided weigh rows) ≡ 0 = ap (λ p. path_own p (sided weigh rows)) same ∙ none-own row.0 weigh rows lower in
        omega (arith, path_own-cons path here (sided weigh rows), own_at_path-same path here same, rest, ap weigh same)
    by false e ih =
        let apart : path ≡ row.0 → ⊥ = λ s. (let no : false ≡ true = sym e ∙ (Decides-order path row.0).1 s in cc) in
        let sum : sum_at (row ∷ rows) path ≡ sum_at rows path = omega (arith, sum_at-cons row rows path, ap (λ b. cond b row.1 0) e) in
        let rest = ih (λ z. none (sum ∙ z)) in
        omega (arith, path_own-cons path here (sided weigh rows), own_at_path-other path here apart, rest)

side_sums : (side samples : List Sample) → ((q : Stack) → sum_at (weighed samples) q ≡ 0 → sum_at (weighed side) q ≡ 0) → SameSums (sided (sum_at (weighed side)) (merged (weighed samples))) side
side_sums side samples none path =
    sided-own path (sum_at (weighed side)) (merged (weighed samples)) (merged-in_order (weighed samples)) (λ z. none path (sym (sum_at-merged (weighed samples) path) ∙ z))
    ∙ sum_at-own path side

joint_sum : (before after : List Sample) (q : Stack) → sum_at (weighed (before ++ after)) q ≡ sum_at (weighed before) q + sum_at (weighed after) q
joint_sum before after q =
    ap (λ all. sum_at all q) (map-append (λ (sample : Sample). (sample.stack, sample.weight)) before after) ∙ sum_at-append (weighed before) (weighed after) q

before_sums : (before after : List Sample) → SameSums (sided (sum_at (weighed before)) (merged (weighed (before ++ after)))) before
before_sums before after = side_sums before (before ++ after) (λ q z. omega (arith, z, joint_sum before after q))

after_sums : (before after : List Sample) → SameSums (sided (sum_at (weighed after)) (merged (weighed (before ++ after)))) after
after_sums before after = side_sums after (before ++ after) (λ q z. omega (arith, z, joint_sum before after q))

same_weight : (xs ys : List Sample) → SameSums xs ys → total_weight xs ≡ total_weight ys
same_weight xs ys h = same_tested (λ stack. true) (length xs) xs ys (omega arith) h

pub before_weight : (before after : List Sample) → total_weight (side_samples Before (paired_stacks before after)) ≡ total_weight before
before_weight before after = ap total_weight (before_sided before after (merged (weighed (before ++ after)))) ∙ same_weight (sided (sum_at (weighed before)) (merged (weighed (before ++ after)))) before (before_sums before after)

pub after_weight : (before after : List Sample) → total_weight (side_samples After (paired_stacks before after)) ≡ total_weight after
after_weight before after = ap total_weight (after_sided before after (merged (weighed (before ++ after)))) ∙ same_weight (sided (sum_at (weighed after)) (merged (weighed (before ++ after)))) after (after_sums before after)

-- ---- their paths

sided_after : (b : Option Stack) (weigh : Stack → ℕ) (rows : List Weighed) → paths_after b (sided weigh rows) ≡ paths_after b (as_samples rows)
sided_after b weigh [] = refl
sided_after b weigh (row ∷ rows) = ap (λ paths. paths_from (first_new b row.0) row.0 ++ paths) (sided_after (Some row.0) weigh rows)

filter-positive : (rows : List Weighed) → AllByRecursion (λ (s : Sample). 0 < s.weight) (as_samples (filter (λ (row : Weighed). ltb 0 row.1) rows))
filter-positive [] = tt
filter-positive (row ∷ rows) = by (ltb 0 row.1) refl (filter-positive rows)
  where
    by : (b : Bool) → ltb 0 row.1 ≡ b → AllByRecursion (λ (s : Sample). 0 < s.weight) (as_samples (filter (λ (r : Weighed). ltb 0 r.1) rows))
        → AllByRecursion (λ (s : Sample). 0 < s.weight) (as_samples (cond b (row ∷ filter (λ (r : Weighed). ltb 0 r.1) rows) (filter (λ (r : Weighed). ltb 0 r.1) rows)))
    by true e ih = (ltb-true 0 row.1 e, ih)
    by false e ih = ih

pub merged-positive : (rows : List Weighed) → AllByRecursion (λ (s : Sample). 0 < s.weight) (as_samples (merged rows))
unfolding merged
merged-positive rows = filter-positive (map (λ stack. (stack, sum_at rows stack)) (stacks_of rows))

merged_paths : (samples : List Sample) → paths_of (merged_samples samples) ≡ paths_of (sorted_by_stack (drawn samples))
merged_paths samples =
    let all = merged_samples samples in
    let ordered : T (are_in_order (weighed (merged_samples samples))) = subst (λ rows. T (are_in_order rows)) (sym (weighed_back (merged (weighed samples)))) (merged-in_order (weighed samples)) in
    let line : sorted_by_stack (drawn (merged_samples samples)) ≡ merged_samples samples = ap sorted_by_stack (drawn_already all (merged-positive (weighed samples))) ∙ sorted_already all ordered in
    ap paths_of (sym line) ∙ sym (same_paths samples all (same_sums samples all (merged_own samples)))

sided_chart : (weigh : Stack → ℕ) (samples : List Sample) → chart_of (sided weigh (merged (weighed samples))) ≡ boxes_of_visits 0 (map (visit_of (sided weigh (merged (weighed samples)))) (paths_of (sorted_by_stack (drawn samples))))
sided_chart weigh samples =
    let all = sided weigh (merged (weighed samples)) in
    ascending-visits all (sided-ascending weigh (merged (weighed samples)) (merged-in_order (weighed samples)))
    ∙ ap (λ paths. boxes_of_visits 0 (map (visit_of all) paths)) (sided_after None weigh (merged (weighed samples)) ∙ merged_paths samples)

-- ---- the rows

abbrev summed_row : List Sample → List Sample → Stack → PairRow
summed_row xs ys path = record {
  path = path;
  total_before = path_total path xs;
  total_after = path_total path ys;
  own_before = path_own path xs;
  own_after = path_own path ys;
}

visited_rows : (xs ys : List Sample) (before : Stack) (paths : List Stack) (start other : ℕ) → PathsGoOn before paths →
    paired_rows before (boxes_of_visits start (map (visit_of xs) paths)) (boxes_of_visits other (map (visit_of ys) paths)) ≡ map (summed_row xs ys) paths
visited_rows xs ys before [] start other c = refl
visited_rows xs ys before (p ∷ ps) start other c =
    let next = next_is before p start (path_own p xs) (path_total p xs) c.0 in
    (λ i. paired_row (next i) (visited_box start (visit_of xs p)) (visited_box other (visit_of ys p))
    ∷ paired_rows (next i) (boxes_of_visits (start + path_own p xs) (map (visit_of xs) ps)) (boxes_of_visits (other + path_own p ys) (map (visit_of ys) ps)))
    ∙ ap (λ rows. summed_row xs ys p ∷ rows) (visited_rows xs ys p ps (start + path_own p xs) (other + path_own p ys) c.1)

same_rows : (one other before after : List Sample) → SameSums one before → SameSums other after → summed_row one other ≡ row_of before after
same_rows one other before after h g = λ i path. record {
  path = path;
  total_before = (same_totals one before h path ∙ sym (total_at-is path before)) i;
  total_after = (same_totals other after g path ∙ sym (total_at-is path after)) i;
  own_before = (h path ∙ sym (own_at-is path before)) i;
  own_after = (g path ∙ sym (own_at-is path after)) i;
}

-- the rows of the charts of both sides are the comparison
pub compared_rows : (before after : List Sample) (lefts rights : List SpanBox) → lefts ≡ chart_of (side_samples Before (paired_stacks before after)) → rights ≡ chart_of (side_samples After (paired_stacks before after)) →
    paired_rows [] lefts rights ≡ comparison_of before after
compared_rows before after lefts rights is are =
    let rows = merged (weighed (before ++ after)) in
    let line = sorted_by_stack (drawn (before ++ after)) in
    let one = sided (sum_at (weighed before)) rows in
    let other = sided (sum_at (weighed after)) rows in
    let left = is ∙ (ap chart_of (before_sided before after rows) ∙ sided_chart (sum_at (weighed before)) (before ++ after)) in
    let right = are ∙ (ap chart_of (after_sided before after rows) ∙ sided_chart (sum_at (weighed after)) (before ++ after)) in
    (λ i. paired_rows [] (left i) (right i))
    ∙ (visited_rows one other [] (paths_of line) 0 0 (chained_paths line)
    ∙ ap (λ row. map row (paths_of line)) (same_rows one other before after (before_sums before after) (after_sums before after)))

-- ---- the boxes

visited_boxes : (xs ys : List Sample) (paths : List Stack) (start other : ℕ) →
    paired_boxes (boxes_of_visits start (map (visit_of xs) paths)) (boxes_of_visits other (map (visit_of ys) paths)) ≡ boxes_of_rows other (map (summed_row xs ys) paths)
visited_boxes xs ys [] start other = refl
visited_boxes xs ys (p ∷ ps) start other = by (ltb 0 (path_total p ys)) refl (visited_boxes xs ys ps (start + path_own p xs) (other + path_own p ys))
  where
    rest : List ComparedBox
    rest = paired_boxes (boxes_of_visits (start + path_own p xs) (map (visit_of xs) ps)) (boxes_of_visits (other + path_own p ys) (map (visit_of ys) ps))

    here : ComparedBox
    here = row_box other (summed_row xs ys p)

    by : (b : Bool) → ltb 0 (path_total p ys) ≡ b → rest ≡ boxes_of_rows (other + path_own p ys) (map (summed_row xs ys) ps)
        → cond b (here ∷ rest) rest ≡ cond b (here ∷ boxes_of_rows (other + path_own p ys) (map (summed_row xs ys) ps)) (boxes_of_rows other (map (summed_row xs ys) ps))
    by true e ih = ap (λ boxes. here ∷ boxes) ih
    by false e ih =
        let none : path_own p ys ≡ 0 = ⊎_elim
        (λ w. (let no : false ≡ true = sym e ∙ lt-ltb 0 (path_total p ys) w in cc))
        (λ le. omega (arith, le, own-part p ys))
        (cases_lt 0 (path_total p ys)) in
        ih ∙ ap (λ n. boxes_of_rows n (map (summed_row xs ys) ps)) (omega (arith, none))

-- the boxes of the charts of both sides are those of the comparison
pub compared_drawn : (before after : List Sample) (lefts rights : List SpanBox) → lefts ≡ chart_of (side_samples Before (paired_stacks before after)) → rights ≡ chart_of (side_samples After (paired_stacks before after)) →
    paired_boxes lefts rights ≡ compared_boxes_of before after
compared_drawn before after lefts rights is are =
    let rows = merged (weighed (before ++ after)) in
    let paths = paths_of (sorted_by_stack (drawn (before ++ after))) in
    let one = sided (sum_at (weighed before)) rows in
    let other = sided (sum_at (weighed after)) rows in
    let left = is ∙ (ap chart_of (before_sided before after rows) ∙ sided_chart (sum_at (weighed before)) (before ++ after)) in
    let right = are ∙ (ap chart_of (after_sided before after rows) ∙ sided_chart (sum_at (weighed after)) (before ++ after)) in
    (λ i. paired_boxes (left i) (right i))
    ∙ (visited_boxes one other paths 0 0
    ∙ (ap (λ row. boxes_of_rows 0 (map row paths)) (same_rows one other before after (before_sums before after) (after_sums before after))
    ∙ rows_boxes (comparison_of before after) before after refl))
