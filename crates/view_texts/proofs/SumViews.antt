-- What is seen of samples by the own sums of their stacks alone.
use Rattle.std.proofs.Common.{◌≡◌, ◌+◌, ◌<◌, true, List, ◌++◌, length, map, sym, ap, subst, ◌∙◌, arith}
use Rattle.std.specs.List.{flat_map, zip}
use Rattle.std.proofs.lemmas.List.Sums.{sum_by-append}
use Rattle.sample_tables.specs.Samples.{total_weight}
use Rattle.sample_tables.specs.declared.samples.Sample.{Sample}
use Rattle.flame_layout.specs.Comparison.{row_of, comparison_of, compared_box, compared_boxes_of}
use Rattle.flame_layout.specs.Graph.{sorted_by_stack}
use Rattle.flame_layout.specs.Paths.{total_at, own_at, paths_of}
use Rattle.merged_stacks.specs.Timeline.{Stack, drawn}
use Rattle.flame_layout.proofs.LawProofs.{weighs, stands}
use Rattle.flame_layout.proofs.Ascending.{sorted-ascending}
use Rattle.flame_layout.proofs.MergedSums.{sum_at-own}
use Rattle.flame_layout.proofs.PathWords.{path_own, own_at-is, total_at-is}
use Rattle.flame_layout.proofs.Rising.{same_rising, paths_of-rise}
use Rattle.flame_layout.proofs.Sums.{same_tested, same_totals, same_graph}
use Rattle.view_texts.specs.Fold.{weighed, fold_text}
use Rattle.view_texts.specs.Pairs.{pairs_of, pair_lines_of, pairs_text}
use Rattle.merged_stacks.proofs.MergedRows.{merged-same}

abbrev pub SameSums : List Sample → List Sample → Type 0
SameSums xs ys = (q : Stack) → path_own q xs ≡ path_own q ys

pub own-append : (q : Stack) (xs ys : List Sample) → path_own q (xs ++ ys) ≡ path_own q xs + path_own q ys
own-append q xs ys = sum_by-append _ xs ys

pub same_append : (xs ys more others : List Sample) → SameSums xs ys → SameSums more others → SameSums (xs ++ more) (ys ++ others)
same_append xs ys more others one other q = own-append q xs more ∙ (λ i. one q i + other q i) ∙ sym (own-append q ys others)

pub same_weights : (xs ys : List Sample) → SameSums xs ys → total_weight xs ≡ total_weight ys
same_weights xs ys same = same_tested (λ stack. true) (length xs) xs ys (omega arith) same

pub same_folds : (xs ys : List Sample) → SameSums xs ys → fold_text xs ≡ fold_text ys
same_folds xs ys same = ap (flat_map _) (merged-same (map weighed xs) (map weighed ys) (λ q. sum_at-own q xs ∙ same q ∙ sym (sum_at-own q ys)))

-- ---- comparisons

abbrev graph_paths : List Sample → List Stack
graph_paths samples = paths_of (sorted_by_stack (drawn samples))

same_owns_at : (xs ys : List Sample) → SameSums xs ys → (path : Stack) → own_at path xs ≡ own_at path ys
same_owns_at xs ys same path = own_at-is path xs ∙ same path ∙ sym (own_at-is path ys)

same_totals_at : (xs ys : List Sample) → SameSums xs ys → (path : Stack) → total_at path xs ≡ total_at path ys
same_totals_at xs ys same path = total_at-is path xs ∙ same_totals xs ys same path ∙ sym (total_at-is path ys)

same_paths : (xs ys : List Sample) → SameSums xs ys → graph_paths xs ≡ graph_paths ys
same_paths xs ys same =
    let totals = same_totals xs ys same in
    same_rising (graph_paths xs) (graph_paths ys)
    (paths_of-rise (sorted_by_stack (drawn xs)) (sorted-ascending (drawn xs)))
    (paths_of-rise (sorted_by_stack (drawn ys)) (sorted-ascending (drawn ys)))
    (λ p among. stands p ys (subst (λ n. 0 < n) (totals p) (weighs p xs among)))
    (λ p among. stands p xs (subst (λ n. 0 < n) (sym (totals p)) (weighs p ys among)))

-- two comparisons, of samples with the same sums
module _ (before after old new : List Sample) (first : SameSums before old) (second : SameSums after new) where
  same_row : row_of before after ≡ row_of old new
  same_row = λ i path. record {
    path = path;
    total_before = same_totals_at before old first path i;
    total_after = same_totals_at after new second path i;
    own_before = same_owns_at before old first path i;
    own_after = same_owns_at after new second path i;
  }

  same_comparison : comparison_of before after ≡ comparison_of old new
  same_comparison = λ i. map (same_row i) (same_paths (before ++ after) (old ++ new) (same_append before old after new first second) i)

  pub same_pairs : pairs_text before after ≡ pairs_text old new
  same_pairs = ap (λ rows. pair_lines_of (pairs_of rows)) same_comparison

  same_box : compared_box before ≡ compared_box old
  same_box = λ i pair. record { span = pair.0; before = same_totals_at before old first pair.1 i }

  pub same_boxes : compared_boxes_of before after ≡ compared_boxes_of old new
  same_boxes = λ i. map (same_box i) (zip (same_graph after new second i) (same_paths after new second i))
