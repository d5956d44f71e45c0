-- the pairs of a comparison are the paired stacks
use Rattle.std.proofs.Common.{◌≡◌, ◌+◌, ◌<◌, List, [], ◌∷◌, ◌++◌, Bool, true, false, cond, map, T, sym, ◌∙◌, ap, refl, arith, inl, inr, ⊎_elim}
use Rattle.std.specs.List.{AllByRecursion, concat}
use Rattle.std.specs.Ordering.{is_eq, is_lt}
use Rattle.std.specs.declared.cmp.Ordering.TheVariants.{Less}
use Rattle.std.specs.FinMap.Entries.{is_sorted, below_all}
use Rattle.std.proofs.lemmas.List.{map-append}
use Rattle.sample_tables.specs.declared.samples.Sample.{Sample}
use Rattle.folded_lines.specs.Writing.{pair_line_of}
use Rattle.flame_layout.specs.declared.boxes.PairRow.{PairRow}
use Rattle.merged_stacks.specs.Timeline.{Stack, drawn}
use Rattle.merged_stacks.specs.Order.{stack_cmp}
use Rattle.merged_stacks.specs.Merged.{Weighed, weighed, sum_at, merged, are_in_order}
use Rattle.merged_stacks.specs.Paired.{paired_at, paired_stacks}
use Rattle.merged_stacks.proofs.JoinedStacks.{less_from}
use Rattle.merged_stacks.proofs.MergedRows.{first, second, sum_at-nil, sum_at-cons, sum_at-append, sum_at-merged, merged-in_order}
use Rattle.flame_layout.specs.Graph.{sorted_by_stack}
use Rattle.flame_layout.specs.Paths.{own_at, paths_of, IsRising}
use Rattle.flame_layout.specs.Comparison.{row_of, comparison_of}
use Rattle.flame_layout.proofs.PathWords.{own_at-is}
use Rattle.flame_layout.proofs.Rising.{Among, same_rising}
use Rattle.flame_layout.proofs.LawProofs.{among_path, contains_path}
use Rattle.flame_layout.proofs.MergedSums.{Decides-order, sum_at-own}
use Rattle.flame_layout.proofs.Sides.{as_samples, merged-positive}
use Rattle.view_texts.specs.Pairs.{has_own, pairs_of, pair_lines_of, pairs_text}
use Rattle.view_texts.specs.Pieces.{pair_lines}
use Rattle.view_texts.proofs.PairRows.{all_pairs}

-- ---- the stacks of merged rows

abbrev stacks_in : List Weighed → List Stack
stacks_in rows = map (λ row. row.0) rows

below_each : (stack : Stack) (rows : List Weighed) → T (below_all stack_cmp stack rows) → AllByRecursion (λ later. stack_cmp stack later ≡ Less) (stacks_in rows)
below_each stack [] h = tt
below_each stack (row ∷ rows) h =
    (less_from (stack_cmp stack row.0) (first (is_lt (stack_cmp stack row.0)) (below_all stack_cmp stack rows) h), below_each stack rows (second (is_lt (stack_cmp stack row.0)) (below_all stack_cmp stack rows) h))

rows_rise : (rows : List Weighed) → T (are_in_order rows) → IsRising (stacks_in rows)
rows_rise [] h = tt
rows_rise (row ∷ rows) h =
    (below_each row.0 rows (first (below_all stack_cmp row.0 rows) (is_sorted stack_cmp rows) h), rows_rise rows (second (below_all stack_cmp row.0 rows) (is_sorted stack_cmp rows) h))

row_weighs : (stack : Stack) (rows : List Weighed) → AllByRecursion (λ (s : Sample). 0 < s.weight) (as_samples rows) → Among stack (stacks_in rows) → 0 < sum_at rows stack
row_weighs stack [] w m = absurd m
row_weighs stack (row ∷ rows) w m =
    ⊎_elim
    (λ e. omega (arith, sum_at-cons row rows stack, ap (λ b. cond b row.1 0) ((Decides-order stack row.0).1 e), w.0))
    (λ rest. omega (arith, sum_at-cons row rows stack, row_weighs stack rows w.1 rest))
    m

row_stands : (stack : Stack) (rows : List Weighed) → 0 < sum_at rows stack → Among stack (stacks_in rows)
row_stands stack [] w = absurd (omega (arith, w, sum_at-nil stack))
row_stands stack (row ∷ rows) w = by (is_eq (stack_cmp stack row.0)) refl (row_stands stack rows)
  where
    by : (b : Bool) → is_eq (stack_cmp stack row.0) ≡ b → (0 < sum_at rows stack → Among stack (stacks_in rows)) → Among stack (stacks_in (row ∷ rows))
    by true e ih = inl ((Decides-order stack row.0).0 e)
    by false e ih = inr (ih (omega (arith, w, sum_at-cons row rows stack, ap (λ b. cond b row.1 0) e)))

-- ---- the pairs

own_sum : (stack : Stack) (samples : List Sample) → sum_at (weighed samples) stack ≡ own_at stack samples
own_sum stack samples = sum_at-own stack samples ∙ sym (own_at-is stack samples)

both_sums : (before after : List Sample) (stack : Stack) → sum_at (merged (weighed (before ++ after))) stack ≡ own_at stack before + own_at stack after
both_sums before after stack =
    sum_at-merged (weighed (before ++ after)) stack ∙ ap (λ all. sum_at all stack) (map-append (λ (sample : Sample). (sample.stack, sample.weight)) before after) ∙ sum_at-append (weighed before) (weighed after) stack
    ∙ (λ i. own_sum stack before i + own_sum stack after i)

pair_stacks : (before after : List Sample) → map (λ (row : PairRow). row.path) (pairs_of (comparison_of before after)) ≡ stacks_in (merged (weighed (before ++ after)))
pair_stacks before after =
    let rows = merged (weighed (before ++ after)) in
    let pairs = map (λ (row : PairRow). row.path) (pairs_of (comparison_of before after)) in
    let known = all_pairs before after in
    same_rising pairs (stacks_in rows) known.rise (rows_rise rows (merged-in_order (weighed (before ++ after))))
    (λ p m. row_stands p rows (omega (arith, both_sums before after p, (known.all p).0 (contains_path p pairs m))))
    (λ p m. among_path p pairs ((known.all p).1 (omega (arith, both_sums before after p, row_weighs p rows (merged-positive (weighed (before ++ after))) m))))

rows_back : (before after : List Sample) (paths : List Stack) → pairs_of (map (row_of before after) paths) ≡ map (row_of before after) (map (λ (row : PairRow). row.path) (pairs_of (map (row_of before after) paths)))
rows_back before after [] = refl
rows_back before after (path ∷ paths) = by (has_own (row_of before after path)) (rows_back before after paths)
  where
    rest : List PairRow
    rest = pairs_of (map (row_of before after) paths)

    by : (b : Bool) → rest ≡ map (row_of before after) (map (λ (row : PairRow). row.path) rest)
        → cond b (row_of before after path ∷ rest) rest ≡ map (row_of before after) (map (λ (row : PairRow). row.path) (cond b (row_of before after path ∷ rest) rest))
    by true ih = ap (λ rows. row_of before after path ∷ rows) ih
    by false ih = ih

lines_of_rows : (before after : List Sample) (rows : List Weighed) → concat (pair_lines (map (λ (row : Weighed). paired_at before after row.0) rows)) ≡ pair_lines_of (map (row_of before after) (stacks_in rows))
lines_of_rows before after [] = refl
lines_of_rows before after (row ∷ rows) =
    λ i. pair_line_of row.0 (own_sum row.0 before i) (own_sum row.0 after i) ++ lines_of_rows before after rows i

-- so the lines of paired stacks are the text of the comparison
pub paired_text : (before after : List Sample) → concat (pair_lines (paired_stacks before after)) ≡ pairs_text before after
paired_text before after =
    lines_of_rows before after (merged (weighed (before ++ after)))
    ∙ (ap (λ stacks. pair_lines_of (map (row_of before after) stacks)) (sym (pair_stacks before after))
    ∙ ap pair_lines_of (sym (rows_back before after (paths_of (sorted_by_stack (drawn (before ++ after)))))))
