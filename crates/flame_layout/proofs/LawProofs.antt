-- the laws on graphs, comparisons and edges
use Rattle.std.proofs.Common.{◌≡◌, ℕ, zero, suc, ◌+◌, ◌*◌, ◌/◌, ◌≤◌, ◌<◌, List, [], ◌∷◌, ◌++◌, length, map, sym, ◌∙◌, ap, subst, arith, inl, inr, ⊎_elim, All, Contains, cond}
use Rattle.std.specs.Prelude.{IsPermutation}
use Rattle.std.specs.List.{AllByRecursion}
use Rattle.std.proofs.lemmas.List.Sorted.{sum_by-IsPermutation}
use Rattle.std.proofs.lemmas.List.Sums.{sum_by-append}
use Rattle.std.proofs.Math.Nat.{div-eq_of_eq-mul_left, div-mul-le_self, le-div_iff_mul-le, mul-le-mul_left}
use Rattle.sample_tables.specs.declared.samples.Sample.{Sample}
use Rattle.merged_stacks.specs.Timeline.{Stack, total_weight, drawn}
use Rattle.flame_layout.specs.Chart.{begins_alike, chart_of}
use Rattle.flame_layout.specs.Graph.{sorted_by_stack, graph_of}
use Rattle.flame_layout.specs.Paths.{total_at, visit_at, paths_of, boxes_of_visits, SameOwn}
use Rattle.flame_layout.proofs.PathWords.{path_total, visit_of, total_at-is, own_at-is, visit_at-is}
use Rattle.flame_layout.specs.Laws.{HasOneBoxAPath, AreComparedPaths, SpansWidth}
use Rattle.flame_layout.proofs.Ascending.{IsPositive, sorted-ascending, sorted-each}
use Rattle.flame_layout.proofs.Visits.{own_at_path, ascending-visits}
use Rattle.flame_layout.proofs.Rising.{Among, each-among, paths_of-rise, paths_of-all, paths_of-weigh}
use Rattle.flame_layout.proofs.Sums.{timeline_own, timeline_total, drawn-positive}
use Rattle.flame_layout.proofs.Geometry.{chart-root}

pub each_from_all : (P : Sample → Type 0) (xs : List Sample) → All P xs → AllByRecursion P xs
each_from_all P [] h = tt
each_from_all P (x ∷ xs) h = (h 0 x (omega arith), each_from_all P xs (λ k d l. h (suc k) d (omega arith)))

pub contains_path : (p : Stack) (ps : List Stack) → Among p ps → Contains ps p
contains_path p [] h = absurd h
contains_path p (q ∷ qs) h = ⊎_elim (λ e. (0, omega arith, sym e)) (λ m. let c = contains_path p qs m in (suc c.0, omega (arith, c.1), c.2)) h

pub among_path : (p : Stack) (ps : List Stack) → Contains ps p → Among p ps
among_path p [] c = absurd (omega (arith, c.1))
among_path p (q ∷ qs) (zero, l, e) = inl (sym e)
among_path p (q ∷ qs) (suc k, l, e) = inr (among_path p qs (k, omega (arith, l), e))

-- the paths of the timeline in order
pub weighs : (p : Stack) (xs : List Sample) → Among p (paths_of (sorted_by_stack (drawn xs))) → 0 < path_total p xs
weighs p xs m =
    let line = sorted_by_stack (drawn xs) in
    let positive : IsPositive (sorted_by_stack (drawn xs)) = sorted-each (λ s. 0 < s.weight) (drawn xs) (drawn-positive xs) in
    subst (λ n. 0 < n) (timeline_total p xs) (each-among (λ q. 0 < path_total q line) p (paths_of line) (paths_of-weigh line positive) m)

pub stands : (p : Stack) (xs : List Sample) → 0 < path_total p xs → Among p (paths_of (sorted_by_stack (drawn xs)))
stands p xs h = paths_of-all p (sorted_by_stack (drawn xs)) (subst (λ n. 0 < n) (sym (timeline_total p xs)) h)

-- the graph of the samples, path by path
pub graph-visits : (xs : List Sample) → graph_of xs ≡ boxes_of_visits 0 (map (visit_at xs) (paths_of (sorted_by_stack (drawn xs))))
graph-visits xs =
    let line = sorted_by_stack (drawn xs) in
    let same : visit_of (sorted_by_stack (drawn xs)) ≡ visit_of xs = λ i p. record { path = p; own = timeline_own p xs i; total = timeline_total p xs i } in
    ascending-visits line (sorted-ascending (drawn xs)) ∙ ap (λ f. boxes_of_visits 0 (map f (paths_of line))) (same ∙ sym (visit_at-is xs))

pub one_box_a_path : (xs : List Sample) → HasOneBoxAPath xs
one_box_a_path xs =
    let line = sorted_by_stack (drawn xs) in
    record {
      paths = paths_of line;
      rise = paths_of-rise line (sorted-ascending (drawn xs));
      all = λ path. ((λ c. subst (λ n. 0 < n) (sym (total_at-is path xs)) (weighs path xs (among_path path (paths_of line) c))), (λ h. contains_path path (paths_of line) (stands path xs (subst (λ n. 0 < n) (total_at-is path xs) h))));
      boxes = graph-visits xs;
    }

-- the total of a path in both profiles
pub joint_total : (before after : List Sample) (p : Stack) → path_total p (before ++ after) ≡ total_at p before + total_at p after
joint_total before after p =
    sum_by-append (λ (t : Sample). cond (begins_alike (length p) p t) t.weight 0) before after ∙ (λ i. sym (total_at-is p before) i + sym (total_at-is p after) i)

pub compared_paths : (before after : List Sample) → AreComparedPaths before after (paths_of (sorted_by_stack (drawn (before ++ after))))
compared_paths before after =
    let xs = before ++ after in
    let sums = joint_total before after in
    record {
      rise = paths_of-rise (sorted_by_stack (drawn xs)) (sorted-ascending (drawn xs));
      all = λ path. ((λ c. subst (λ n. 0 < n) (sums path) (weighs path xs (among_path path _ c))), (λ h. contains_path path _ (stands path xs (subst (λ n. 0 < n) (sym (sums path)) h))));
    }

pub permuted_own : (xs ys : List Sample) → IsPermutation xs ys → SameOwn xs ys
permuted_own xs ys h path = own_at-is path xs ∙ (sym (sum_by-IsPermutation (own_at_path path) xs ys h) ∙ sym (own_at-is path ys))

pub root_width : (xs : List Sample) (width : ℕ) → 0 < total_weight xs → SpansWidth (total_weight xs) width (chart_of xs)
root_width [] width h = absurd (omega arith)
root_width (s ∷ rest) width h =
    let r = chart-root s rest in
    let total = total_weight (s ∷ rest) in
    record {
      root = r.root;
      rest = r.rest;
      first = r.first;
      depth = r.depth;
      left = ap (λ n. n * width / total) r.start ∙ div-eq_of_eq-mul_left {n = total} {m = 0 * width} {k = 0} h (omega arith);
      right = (λ i. (r.start i + r.weight i) * width / total) ∙ div-eq_of_eq-mul_left {n = total} {m = (0 + total) * width} {k = width} h (omega arith);
    }

-- a later point has no lesser edge
pub edge_order : (total width a b : ℕ) → 0 < total → a ≤ b → a * width / total ≤ b * width / total
edge_order total width a b p h =
    let more : width * a ≤ width * b = mul-le-mul_left width h in
    (le-div_iff_mul-le {k = total} {x = a * width / total} {y = b * width} p).1 (omega (arith, div-mul-le_self (a * width) total, more))
