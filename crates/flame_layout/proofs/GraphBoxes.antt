-- the boxes of a tree's listing are its graph
use Rattle.std.proofs.Common.{◌≡◌, ℕ, zero, suc, ◌+◌, ◌-◌, ◌^◌, ◌≤◌, ◌<◌, List, [], ◌∷◌, ◌++◌, length, map, drop, get_or, sym, ◌∙◌, ap, subst, refl, arith, ⊎_elim, All, Contains, nat_eq, Option, Some, None}
use Rattle.std.specs.Prelude.{if◌then◌else◌}
use Rattle.std.specs.List.{AllByRecursion}
use Rattle.std.specs.FinMap.{entries}
use Rattle.std.proofs.lemmas.List.Sums.{sum_by-cons}
use Rattle.std.proofs.lemmas.List.{drop_more, get_or_at, get_or-map, get_or_default, length-map, length-append}
use Rattle.std.proofs.lemmas.Bool.{cases_lt, ne_eqb}
use Rattle.call_tree.specs.CallTree.{Tree, own_weight, total_weight}
use Rattle.call_tree.specs.PathSums.{begins_with, total_of}
use Rattle.call_tree.specs.FrameTable.{HasDistinctNames}
use Rattle.call_tree.specs.declared.listing.Visit.{Visit as TreeVisit}
use Rattle.call_tree.specs.Listing.{named, visit_of as tree_visit, HasNumbersOf, IsListing as IsTreeListing}
use Rattle.sample_tables.specs.declared.samples.Sample.{Sample}
use Rattle.flame_layout.specs.declared.boxes.SpanBox.{SpanBox}
use Rattle.merged_stacks.specs.Timeline.{Stack, total_weight as timeline_total, drawn}
use Rattle.flame_layout.specs.Chart.{box_name, box_at, boxes_from, boxes_after, chart_of, first_new, run_at}
use Rattle.flame_layout.specs.Graph.{sorted_by_stack, graph_of}
use Rattle.flame_layout.specs.checked.Listed.{listed_box, listed_boxes}
use Rattle.flame_layout.specs.Paths.{boxes_of_visits, SameOwn, tree_samples}
use Rattle.flame_layout.proofs.Walked.{own_weight-le}
use Rattle.merged_stacks.proofs.Timelines.{total_weight-drawn, drawn-nil, weight_of}
use Rattle.flame_layout.proofs.Ascending.{sorted-sum}
use Rattle.flame_layout.proofs.Geometry.{each-join, each-range, all_from_each, chart-within}
use Rattle.flame_layout.proofs.Sums.{listing_graph, same_graph, same_sums}
use Rattle.flame_layout.proofs.TreeSamples.{InTable, named_visit, named_listing, entries_named, path_in, sampled}

-- the box that comes next
pub listed_next : (P : SpanBox → Type 0) (names : List (List ℕ)) (visits : List TreeVisit) (boxes : List SpanBox) (start i : ℕ) (d : TreeVisit) → i < length visits →
    listed_boxes names 0 visits ≡ boxes ++ listed_boxes names start (drop i visits) → All P (listed_boxes names 0 visits) → P (listed_box names start (get_or visits i d))
listed_next P names visits boxes start i d l e h =
    let b = listed_box names start (get_or visits i d) in
    let more = listed_boxes names (start + (get_or visits i d).own) (drop (i + 1) visits) in
    let parts : listed_boxes names 0 visits ≡ boxes ++ (b ∷ more) = e ∙ ap (λ vs. boxes ++ listed_boxes names start vs) (drop_more visits i d l) in
    let long : length boxes < length (listed_boxes names 0 visits) = omega (arith, ap length parts, length-append boxes (b ∷ more)) in
    let read : get_or (listed_boxes names 0 visits) (length boxes) b ≡ b = ap (λ bs. get_or bs (length boxes) b) parts ∙ get_or_at boxes b more b (length boxes) refl in
    subst P read (h (length boxes) b long)

name_of_visit : (names : List (List ℕ)) (p : List ℕ) → (if nat_eq (length p) 0 then box_name 0 [] else get_or names (get_or p (length p - 1) 0) []) ≡ box_name (length (named names p)) (named names p)
name_of_visit names [] = refl
name_of_visit names (n ∷ p) =
    let long : length (named names (n ∷ p)) ≡ suc (length p) = length-map (n ∷ p) (λ k. get_or names k []) in
    let last : length (n ∷ p) - 1 ≡ length p = omega arith in
    ap (λ b. if b then box_name 0 [] else get_or names (get_or (n ∷ p) (length (n ∷ p) - 1) 0) []) (ne_eqb (length (n ∷ p)) 0 (λ e. omega (arith, e))) ∙
    (ap (λ k. get_or names (get_or (n ∷ p) k 0) []) last ∙
    (sym (get_or-map (λ k. get_or names k []) (n ∷ p) (length p) 0 [] (omega arith)) ∙ ap (λ k. box_name k (named names (n ∷ p))) (sym long)))

pub listed_is : (names : List (List ℕ)) (tree : Tree) (paths : List (List ℕ)) (start : ℕ) → listed_boxes names start (map (tree_visit tree) paths) ≡ boxes_of_visits start (map (named_visit names tree) paths)
listed_is names tree [] start = refl
listed_is names tree (p ∷ ps) start =
    let long : length p ≡ length (named names p) = sym (length-map p (λ k. get_or names k [])) in
    λ i. record { depth = long i; name = name_of_visit names p i; start = start; weight = total_weight tree p; own = own_weight tree p } ∷ listed_is names tree ps (start + own_weight tree p) i

pub listed_graph : (names : List (List ℕ)) (tree : Tree) (visits : List TreeVisit) → IsTreeListing names tree visits → HasDistinctNames names → HasNumbersOf names tree →
    listed_boxes names 0 visits ≡ graph_of (tree_samples names tree)
listed_graph names tree visits l d numbers =
    ap (listed_boxes names 0) l.are ∙ (listed_is names tree l.paths 0 ∙ sym (listing_graph (tree_samples names tree) (map (named_visit names tree) l.paths) (named_listing names tree visits l d numbers)))

pub sampled_graph : (names : List (List ℕ)) (tree : Tree) (boxes : List SpanBox) (samples : List Sample) → boxes ≡ graph_of (tree_samples names tree) → SameOwn samples (tree_samples names tree) → boxes ≡ graph_of samples
sampled_graph names tree boxes samples e h = e ∙ sym (same_graph samples (tree_samples names tree) (same_sums samples (tree_samples names tree) h))

-- ---- what the boxes of a graph meet

entries_weight : (names : List (List ℕ)) (es : List (List ℕ × ℕ)) → timeline_total (sampled names es) ≡ total_of nat_eq es []
unfolding total_of
entries_weight names [] = refl
entries_weight names (e ∷ es) =
    sum_by-cons weight_of (record { stack = named names e.0; weight = e.1 }) (sampled names es) ∙
    (ap (λ n. e.1 + n) (entries_weight names es) ∙ sym (sum_by-cons (λ (s : List ℕ × ℕ). if begins_with nat_eq [] s.0 then s.1 else 0) e es))

line_weight : (xs : List Sample) → timeline_total (sorted_by_stack (drawn xs)) ≡ timeline_total xs
line_weight xs = sorted-sum weight_of (drawn xs) ∙ total_weight-drawn xs

pub tree_weight : (names : List (List ℕ)) (tree : Tree) → timeline_total (tree_samples names tree) ≡ total_weight tree []
tree_weight names tree = entries_weight names (entries tree)

pub graph-within : (xs : List Sample) → All (λ span. span.start + span.weight ≤ timeline_total xs) (graph_of xs)
graph-within xs = subst (λ n. All (λ span. span.start + span.weight ≤ n) (graph_of xs)) (line_weight xs) (chart-within (sorted_by_stack (drawn xs)))

boxes-own : (b : Option Stack) (start : ℕ) (xs : List Sample) → AllByRecursion (λ span. span.own ≤ span.weight) (boxes_after b start xs)
boxes-own b start [] = tt
boxes-own b start (s ∷ rest) =
    each-join (λ span. span.own ≤ span.weight) (boxes_from (first_new b s.stack) s.stack start (s ∷ rest)) (boxes_after (Some s.stack) (start + s.weight) rest)
    (each-range (λ span. span.own ≤ span.weight) (box_at s.stack start (s ∷ rest)) (length s.stack + 1 - first_new b s.stack) (first_new b s.stack) (λ k l u. own_weight-le k (run_at k s.stack (s ∷ rest))))
    (boxes-own (Some s.stack) (start + s.weight) rest)

pub chart-own : (xs : List Sample) → All (λ span. span.own ≤ span.weight) (chart_of xs)
chart-own xs = all_from_each (λ span. span.own ≤ span.weight) (chart_of xs) (boxes-own None 0 xs)

pub graph-positive : (xs : List Sample) → 0 < length (graph_of xs) → 0 < timeline_total xs
graph-positive xs h =
    ⊎_elim (λ l. l)
    (λ le.
    let none : drawn xs ≡ [] = drawn-nil xs (omega (arith, le, total_weight-drawn xs)) in
    absurd (omega (arith, h, ap (λ ys. length (chart_of (sorted_by_stack ys))) none)))
    (cases_lt 0 (timeline_total xs))

-- ---- what a listing meets

pub each_at : (P : TreeVisit → Type 0) (tree : Tree) (paths : List (List ℕ)) (visits : List TreeVisit) → visits ≡ map (tree_visit tree) paths → ((p : List ℕ) → Contains paths p → P (tree_visit tree p)) → All P visits
each_at P tree paths visits e h k d l =
    let long : length visits ≡ length paths = ap length e ∙ length-map paths (tree_visit tree) in
    let p = get_or paths k [] in
    let within : k < length paths = omega (arith, l, long) in
    let read : get_or visits k d ≡ tree_visit tree (get_or paths k []) = ap (λ vs. get_or vs k d) e ∙ get_or-map (tree_visit tree) paths k [] d within in
    subst P (sym read) (h p (k, within, get_or_default paths k p [] within))

last_in : (names : List (List ℕ)) (p : List ℕ) → InTable names p → 0 < length p → get_or p (length p - 1) 0 < length names
last_in names [] h l = absurd (omega arith)
last_in names (n ∷ p) h l = at (n ∷ p) h (length (n ∷ p) - 1) (omega arith)
  where
    at : (q : List ℕ) → InTable names q → (k : ℕ) → k < length q → get_or q k 0 < length names
    at [] g k m = absurd (omega arith)
    at (x ∷ q) g zero m = g.0
    at (x ∷ q) g (suc k) m = at q g.1 k (omega arith)

pub listed_few : (names : List (List ℕ)) (tree : Tree) (visits : List TreeVisit) → IsTreeListing names tree visits → ((path : List ℕ) → 0 < total_weight tree path → length path ≤ 4096) → All (λ visit. visit.depth ≤ 4096) visits
listed_few names tree visits l deep = each_at (λ visit. visit.depth ≤ 4096) tree l.paths visits l.are (λ p c. deep p ((l.members p).0 c))

pub listed_named : (names : List (List ℕ)) (tree : Tree) (visits : List TreeVisit) → IsTreeListing names tree visits → HasNumbersOf names tree → All (λ visit. 0 < visit.depth → visit.frame < length names) visits
listed_named names tree visits l numbers =
    each_at (λ visit. 0 < visit.depth → visit.frame < length names) tree l.paths visits l.are
    (λ p c w. last_in names p (path_in names (entries tree) p (entries_named names tree numbers) ((l.members p).0 c)) w)

pub listed_sums : (names : List (List ℕ)) (tree : Tree) (boxes : List SpanBox) → boxes ≡ graph_of (tree_samples names tree) → total_weight tree [] < 2 ^ 64 → All (λ span. (span.start + span.weight < 2 ^ 64) × (span.own ≤ span.weight)) boxes
listed_sums names tree boxes e small =
    let samples = tree_samples names tree in
    subst (λ bs. All (λ (span : SpanBox). (span.start + span.weight < 2 ^ 64) × (span.own ≤ span.weight)) bs) (sym e)
    (λ k d l. (omega (arith, graph-within samples k d l, tree_weight names tree, small), chart-own (sorted_by_stack (drawn samples)) k d l))
