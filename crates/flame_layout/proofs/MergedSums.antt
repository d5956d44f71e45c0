-- The sums of merged stacks, and their graph.
use Rattle.std.proofs.Common.{◌≡◌, ℕ, ◌+◌, ◌<◌, List, [], ◌∷◌, ◌++◌, false, cond, map, T, Decides, sym, ◌∙◌, ap, subst, refl, arith, All}
use Rattle.std.specs.List.{AllByRecursion}
use Rattle.std.specs.declared.cmp.Ordering.{Ordering}
use Rattle.std.specs.declared.cmp.Ordering.TheVariants.{Less, Equal, Greater}
use Rattle.std.specs.Ordering.{is_eq, is_lt, ordering_reverse}
use Rattle.std.specs.Str.{bytes_eq}
use Rattle.std.specs.Cmp.Lexicographic.{pointwise}
use Rattle.std.specs.FinMap.Entries.{is_sorted, below_all}
use Rattle.std.proofs.lemmas.Cmp.{tied_itself}
use Rattle.std.proofs.lemmas.Bool.{lt-ltb}
use Rattle.std.proofs.lemmas.List.{append-nil}
use Rattle.std.proofs.lemmas.List.Elements.{recursion_from_All}
use Rattle.flame_layout.specs.declared.chart_walks.ChartWalk.{ChartWalk}
use Rattle.flame_layout.specs.checked.ChartWalks.{IsChartWalk}
use Rattle.std.proofs.lemmas.Bool.Decides.{same_from_decides}
use Rattle.sample_tables.specs.declared.samples.Sample.{Sample}
use Rattle.merged_stacks.specs.Timeline.{Stack, drawn, total_weight}
use Rattle.flame_layout.specs.Chart.{chart_of}
use Rattle.merged_stacks.specs.Order.{stack_cmp}
use Rattle.flame_layout.specs.Graph.{insert_by_stack, sorted_by_stack, graph_of}
use Rattle.merged_stacks.specs.Merged.{weighed, Weighed, sum_at, merged, merged_samples, are_in_order}
use Rattle.flame_layout.specs.Paths.{SameOwn}
use Rattle.flame_layout.proofs.Order.{stack_same, stack_total}
use Rattle.flame_layout.proofs.PathWords.{path_own, own_at-is}
use Rattle.flame_layout.proofs.Visits.{Decides-stack, path_own-cons}
use Rattle.flame_layout.proofs.TreeSamples.{equal_is}
use Rattle.flame_layout.proofs.Sums.{same_graph, same_sums}
use Rattle.merged_stacks.proofs.MergedRows.{sum_at-cons, sum_at-nil, sum_at-merged, merged-same, first, second}

pub Decides-order : (a b : Stack) → Decides (is_eq (stack_cmp a b)) (a ≡ b)
Decides-order a b = ((λ e. stack_same a b (equal_is (stack_cmp a b) e)), (λ e. ap is_eq (subst (λ c. stack_cmp a c ≡ Equal) e (tied_itself stack_total a))))

-- the sum of a stack's samples is its own weight
pub sum_at-own : (q : Stack) (samples : List Sample) → sum_at (weighed samples) q ≡ path_own q samples
sum_at-own q [] = sum_at-nil q
sum_at-own q (s ∷ samples) =
    let same : is_eq (stack_cmp q s.stack) ≡ pointwise bytes_eq q s.stack = same_from_decides _ _ (Decides-order q s.stack) (Decides-stack q s.stack) in
    sum_at-cons (s.stack, s.weight) (weighed samples) q ∙ ((λ i. cond (same i) s.weight 0 + sum_at-own q samples i) ∙ sym (path_own-cons q s samples))

-- samples with the same own sums have the same rows
pub same_rows : (xs ys : List Sample) → SameOwn xs ys → merged (weighed xs) ≡ merged (weighed ys)
same_rows xs ys h =
    merged-same (weighed xs) (weighed ys) (λ q. sum_at-own q xs ∙ (sym (own_at-is q xs) ∙ (h q ∙ (own_at-is q ys ∙ sym (sum_at-own q ys)))))

pub weighed_back : (rows : List Weighed) → weighed (map (λ (row : Weighed). (let s : Sample = record { stack = row.0; weight = row.1 } in s)) rows) ≡ rows
weighed_back [] = refl
weighed_back (row ∷ rows) = ap (λ all. row ∷ all) (weighed_back rows)

pub merged_own : (samples : List Sample) → SameOwn samples (merged_samples samples)
merged_own samples q =
    own_at-is q samples ∙ sym (sum_at-own q samples) ∙ sym (sum_at-merged (weighed samples) q) ∙ ap (λ rows. sum_at rows q) (sym (weighed_back (merged (weighed samples))))
    ∙ sum_at-own q (merged_samples samples) ∙ sym (own_at-is q (merged_samples samples))

-- samples that are sorted are so already
less_from : (o : Ordering) → T (is_lt o) → o ≡ Less
less_from Less h = refl
less_from Equal h = absurd h
less_from Greater h = absurd h

pub sorted_already : (samples : List Sample) → T (are_in_order (weighed samples)) → sorted_by_stack samples ≡ samples
sorted_already [] h = refl
sorted_already (s ∷ samples) h =
    ap (insert_by_stack s) (sorted_already samples (second (below_all stack_cmp s.stack (weighed samples)) (is_sorted stack_cmp (weighed samples)) h))
    ∙ put samples (first (below_all stack_cmp s.stack (weighed samples)) (is_sorted stack_cmp (weighed samples)) h)
  where
    put : (others : List Sample) → T (below_all stack_cmp s.stack (weighed others)) → insert_by_stack s others ≡ s ∷ others
    put [] g = refl
    put (t ∷ others) g =
        let less : stack_cmp s.stack t.stack ≡ Less = less_from _ (first (is_lt (stack_cmp s.stack t.stack)) (below_all stack_cmp s.stack (weighed others)) g) in
        let not : is_lt (stack_cmp t.stack s.stack) ≡ false = ap is_lt (stack_total.antisymm t.stack s.stack ∙ ap ordering_reverse less) in
        ap (λ b. cond b (t ∷ insert_by_stack s others) (s ∷ t ∷ others)) not

pub drawn_already : (samples : List Sample) → AllByRecursion (λ sample. 0 < sample.weight) samples → drawn samples ≡ samples
drawn_already [] h = refl
drawn_already (s ∷ samples) h =
    ap (λ b. cond b (s ∷ drawn samples) (drawn samples)) (lt-ltb 0 s.weight h.0) ∙ ap (λ all. s ∷ all) (drawn_already samples h.1)

-- the chart of merged stacks is the graph
pub chart_is_graph : (stacks samples : List Sample) → T (are_in_order (weighed stacks)) → AllByRecursion (λ sample. 0 < sample.weight) stacks → SameOwn samples stacks → chart_of stacks ≡ graph_of samples
chart_is_graph stacks samples ordered positive same =
    sym (ap (λ all. chart_of (sorted_by_stack all)) (drawn_already stacks positive) ∙ ap chart_of (sorted_already stacks ordered)) ∙ sym (same_graph samples stacks (same_sums samples stacks same))

-- what was walked of merged stacks, from their total on, begins at 0 and is all of them
pub walked_stacks : {S : Type 0} (stacks listed : List Sample) (start end : ℕ) (walk : ChartWalk S) → listed ≡ stacks → All (λ sample. 0 < sample.weight) stacks → end ≡ total_weight stacks → start + total_weight listed ≡ end
    → IsChartWalk start walk (drawn listed ++ []) → IsChartWalk 0 walk stacks
walked_stacks stacks listed start end walk same positive is sum walked =
    let none : start ≡ 0 = omega (arith, is, sum, ap total_weight same) in
    let all : drawn listed ++ [] ≡ stacks = append-nil (drawn listed) ∙ (ap drawn same ∙ drawn_already stacks (recursion_from_All (λ (sample : Sample). 0 < sample.weight) stacks positive)) in
    subst (λ n. IsChartWalk n walk stacks) none (subst (IsChartWalk start walk) all walked)
