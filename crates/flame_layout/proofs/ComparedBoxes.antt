-- the boxes of a comparison, from its rows
use Rattle.std.proofs.Common.{◌≡◌, ℕ, ◌+◌, ◌≤◌, ◌<◌, List, [], ◌∷◌, ◌++◌, Bool, true, false, cond, length, map, filter, get_or, ltb, sym, ◌∙◌, ap, subst, refl, arith, All}
use Rattle.std.specs.List.{zip}
use Rattle.std.proofs.lemmas.List.{get_or-map, length-map}
use Rattle.std.proofs.lemmas.Slice.Zip.{firsts-zip, seconds-zip, AllZip-long}
use Rattle.std.proofs.lemmas.Bool.{lt-ltb, ltb-true}
use Rattle.sample_tables.specs.declared.samples.Sample.{Sample}
use Rattle.flame_layout.specs.declared.boxes.SpanBox.{SpanBox}
use Rattle.flame_layout.specs.declared.boxes.PairRow.{PairRow}
use Rattle.flame_layout.specs.declared.boxes.ComparedBox.{ComparedBox}
use Rattle.merged_stacks.specs.Timeline.{Stack, total_weight, drawn}
use Rattle.flame_layout.specs.Graph.{sorted_by_stack, graph_of}
use Rattle.flame_layout.specs.Paths.{total_at, own_at, paths_of, visit_at, boxes_of_visits}
use Rattle.flame_layout.specs.Comparison.{row_of, comparison_of, compared_box, compared_boxes_of}
use Rattle.flame_layout.specs.checked.Paired.{row_box}
use Rattle.flame_layout.specs.Runs.{HasPath}
use Rattle.flame_layout.proofs.PathWords.{total_at-is}
use Rattle.flame_layout.proofs.Ascending.{sorted-ascending}
use Rattle.flame_layout.proofs.Rising.{same_rising, paths_of-rise, filter-rise, among-filter, passes-filter}
use Rattle.flame_layout.proofs.InStep.{chart-step}
use Rattle.flame_layout.proofs.LawProofs.{weighs, stands, graph-visits, joint_total}
use Rattle.flame_layout.proofs.GraphBoxes.{graph-within, graph-positive}

-- the boxes of the rows with weight in the second profile, each from the sum of the own weights of those before it
abbrev pub boxes_of_rows : ℕ → List PairRow → List ComparedBox
boxes_of_rows start [] = []
boxes_of_rows start (row ∷ rest) = cond (ltb 0 row.total_after) (row_box start row ∷ boxes_of_rows (start + row.own_after) rest) (boxes_of_rows start rest)

-- the paths that have weight in the samples
abbrev weighing : List Sample → List Stack → List Stack
weighing samples paths = filter (λ p. ltb 0 (total_at p samples)) paths

-- the boxes of rows are those of the visits of their paths
rows_visited : (xs ys : List Sample) (ps : List Stack) (start : ℕ) → boxes_of_rows start (map (row_of xs ys) ps) ≡ map (compared_box xs) (zip (boxes_of_visits start (map (visit_at ys) (weighing ys ps))) (weighing ys ps))
rows_visited xs ys [] start = refl
rows_visited xs ys (p ∷ ps) start = by (ltb 0 (total_at p ys)) (rows_visited xs ys ps start) (rows_visited xs ys ps (start + own_at p ys))
  where
    by : (b : Bool) → boxes_of_rows start (map (row_of xs ys) ps) ≡ map (compared_box xs) (zip (boxes_of_visits start (map (visit_at ys) (weighing ys ps))) (weighing ys ps))
        → boxes_of_rows (start + own_at p ys) (map (row_of xs ys) ps) ≡ map (compared_box xs) (zip (boxes_of_visits (start + own_at p ys) (map (visit_at ys) (weighing ys ps))) (weighing ys ps))
        → cond b (row_box start (row_of xs ys p) ∷ boxes_of_rows (start + own_at p ys) (map (row_of xs ys) ps)) (boxes_of_rows start (map (row_of xs ys) ps))
        ≡ map (compared_box xs) (zip (boxes_of_visits start (map (visit_at ys) (cond b (p ∷ weighing ys ps) (weighing ys ps)))) (cond b (p ∷ weighing ys ps) (weighing ys ps)))
    by true here next = ap (λ boxes. row_box start (row_of xs ys p) ∷ boxes) next
    by false here next = here

-- ---- the paths of the second profile among those of both

weighing_paths : (xs ys : List Sample) → weighing ys (paths_of (sorted_by_stack (drawn (xs ++ ys)))) ≡ paths_of (sorted_by_stack (drawn ys))
weighing_paths xs ys =
    let both = paths_of (sorted_by_stack (drawn (xs ++ ys))) in
    let test = λ (p : Stack). ltb 0 (total_at p ys) in
    same_rising (weighing ys both) (paths_of (sorted_by_stack (drawn ys)))
    (filter-rise test both (paths_of-rise (sorted_by_stack (drawn (xs ++ ys))) (sorted-ascending (drawn (xs ++ ys)))))
    (paths_of-rise (sorted_by_stack (drawn ys)) (sorted-ascending (drawn ys)))
    (λ p m. stands p ys (subst (λ n. 0 < n) (total_at-is p ys) (ltb-true 0 (total_at p ys) (passes-filter test p both m))))
    (λ p m.
    let w : 0 < total_at p ys = subst (λ n. 0 < n) (sym (total_at-is p ys)) (weighs p ys m) in
    among-filter test p both (stands p (xs ++ ys) (omega (arith, joint_total xs ys p, w))) (lt-ltb 0 (total_at p ys) w))

-- the boxes of a comparison's rows are the comparison's
pub rows_boxes : (rows : List PairRow) (xs ys : List Sample) → rows ≡ comparison_of xs ys → boxes_of_rows 0 rows ≡ compared_boxes_of xs ys
rows_boxes rows xs ys e =
    let paths = paths_of (sorted_by_stack (drawn ys)) in
    ap (boxes_of_rows 0) e ∙ (rows_visited xs ys (paths_of (sorted_by_stack (drawn (xs ++ ys)))) 0 ∙
    (ap (λ ps. map (compared_box xs) (zip (boxes_of_visits 0 (map (visit_at ys) ps)) ps)) (weighing_paths xs ys) ∙
    ap (λ boxes. map (compared_box xs) (zip boxes (paths_of (sorted_by_stack (drawn ys))))) (sym (graph-visits ys))))

-- ---- what they are

spans_zipped : (xs : List Sample) (zs : List (SpanBox × Stack)) → map (λ (compared : ComparedBox). compared.span) (map (compared_box xs) zs) ≡ map (λ (z : SpanBox × Stack). z.0) zs
spans_zipped xs [] = refl
spans_zipped xs (z ∷ zs) = ap (λ spans. z.0 ∷ spans) (spans_zipped xs zs)

totals_zipped : (xs : List Sample) (zs : List (SpanBox × Stack)) → map (λ (compared : ComparedBox). compared.before) (map (compared_box xs) zs) ≡ map (λ path. total_at path xs) (map (λ (z : SpanBox × Stack). z.1) zs)
totals_zipped xs [] = refl
totals_zipped xs (z ∷ zs) = ap (λ totals. total_at z.1 xs ∷ totals) (totals_zipped xs zs)

path_a_box : (ys : List Sample) → length (paths_of (sorted_by_stack (drawn ys))) ≡ length (graph_of ys)
path_a_box ys = AllZip-long (HasPath (sorted_by_stack (drawn ys))) (graph_of ys) (paths_of (sorted_by_stack (drawn ys))) (chart-step (sorted_by_stack (drawn ys)))

pub compared-spans : (xs ys : List Sample) → map (λ (compared : ComparedBox). compared.span) (compared_boxes_of xs ys) ≡ graph_of ys
compared-spans xs ys = spans_zipped xs _ ∙ firsts-zip (graph_of ys) (paths_of (sorted_by_stack (drawn ys))) (path_a_box ys)

pub compared-totals : (xs ys : List Sample) → map (λ (compared : ComparedBox). compared.before) (compared_boxes_of xs ys) ≡ map (λ path. total_at path xs) (paths_of (sorted_by_stack (drawn ys)))
compared-totals xs ys = totals_zipped xs _ ∙ ap (map (λ path. total_at path xs)) (seconds-zip (graph_of ys) (paths_of (sorted_by_stack (drawn ys))) (path_a_box ys))

compared-each : (P : SpanBox → Type 0) (xs ys : List Sample) → All P (graph_of ys) → All (λ compared. P compared.span) (compared_boxes_of xs ys)
compared-each P xs ys h k d l =
    let span = λ (compared : ComparedBox). compared.span in
    let all = compared_boxes_of xs ys in
    let spans = compared-spans xs ys in
    let long : length (compared_boxes_of xs ys) ≡ length (graph_of ys) = sym (length-map all span) ∙ ap length spans in
    let read : get_or (graph_of ys) k d.span ≡ (get_or (compared_boxes_of xs ys) k d).span = ap (λ boxes. get_or boxes k d.span) (sym spans) ∙ get_or-map span all k d d.span l in
    subst P read (h k d.span (omega (arith, l, long)))

pub compared-within : (boxes : List ComparedBox) (xs ys : List Sample) → boxes ≡ compared_boxes_of xs ys → All (λ compared. compared.span.start + compared.span.weight ≤ total_weight ys) boxes
compared-within boxes xs ys e =
    subst (λ bs. All (λ (compared : ComparedBox). compared.span.start + compared.span.weight ≤ total_weight ys) bs) (sym e)
    (compared-each (λ span. span.start + span.weight ≤ total_weight ys) xs ys (graph-within ys))

pub compared-positive : (boxes : List ComparedBox) (xs ys : List Sample) → boxes ≡ compared_boxes_of xs ys → 0 < length boxes → 0 < total_weight ys
compared-positive boxes xs ys e h =
    graph-positive ys (omega (arith, h, ap length e, length-map (compared_boxes_of xs ys) (λ (compared : ComparedBox). compared.span), ap length (compared-spans xs ys)))

-- ---- one row more
