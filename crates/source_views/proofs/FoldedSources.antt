-- The views of the folds of sources are those of the sources.
use Rattle.std.proofs.Common.{◌≡◌, ℕ, zero, suc, false, cond, length, take, List, [], ◌∷◌, map, None, Some, All, codes, ap, ◌∙◌, refl, sym}
use Rattle.std.proofs.lemmas.List.Elements.{All-head, All-tail}
use Rattle.stack_core.specs.Interleaving.{list_of}
use Rattle.stack_core.specs.Reading.{IsSourceLimited}
use Rattle.sample_tables.specs.declared.samples.Sample.{Sample}
use Rattle.run_options.specs.declared.choices.Naming.{Naming}
use Rattle.run_options.specs.declared.choices.Pick.{Pick}
use Rattle.run_options.specs.declared.formats.Format.{Format}
use Rattle.run_options.specs.declared.formats.Format.TheVariants.{Folded, Pprof}
use Rattle.folded_lines.specs.LastNames.{last_ends_in_number}
use Rattle.folded_lines.proofs.ReadLemmas.{IsSourceLimited-read_folded}
use Rattle.profile_tables.proofs.RestLemmas.{pprof-limited}
use Rattle.merged_stacks.specs.Timeline.{drawn}
use Rattle.flame_layout.proofs.Sums.{same_graph}
use Rattle.source_lists.specs.Sources.{read_bytes}
use Rattle.merging.specs.Sums.{all_samples}
use Rattle.merging.proofs.BackLemmas.{samples_back}
use Rattle.function_sums.specs.FunctionList.{changes_of}
use Rattle.function_sums.specs.declared.changes.ChangeOrder.{ChangeOrder}
use Rattle.function_sums.proofs.FunctionList.{same_changes, same_functions}
use Rattle.function_sums.specs.ChangeJson.{changes_line}
use Rattle.function_sums.specs.ChangeTable.{changes_table, shares_table}
use Rattle.function_sums.specs.FunctionJson.{functions_line}
use Rattle.function_sums.specs.FunctionTable.{functions_table}
use Rattle.function_sums.specs.Told.{nothing_told}
use Rattle.command_line.specs.declared.plans.DiffTable.{DiffTable}
use Rattle.command_line.specs.declared.plans.TopTable.{TopTable}
use Rattle.command_line.specs.declared.plans.View.{View}
use Rattle.command_line.specs.declared.plans.View.TheVariants.{Fold, Graph, Chart, Pairs, PairBoxes, Top, Diff}
use Rattle.view_texts.specs.Json.{boxes_line, pair_boxes_line}
use Rattle.view_texts.specs.Parts.{IsFoldable, refolded}
use Rattle.view_texts.proofs.PartFolds.{refolded-sums, foldable-from}
use Rattle.view_texts.proofs.SumViews.{SameSums, same_append, same_weights, same_folds, same_pairs, same_boxes}
use Rattle.source_views.specs.SumViews.{SeesSums}
use Rattle.source_views.specs.Texts.{diff_text, order_of, top_text, view_text}

same_all : (lists : List (List Sample)) → All IsFoldable lists → SameSums (all_samples (map refolded lists)) (all_samples lists)
same_all [] foldable = λ q. refl
same_all (list ∷ lists) foldable =
    same_append (refolded list) list (all_samples (map refolded lists)) (all_samples lists) (λ q. sym (refolded-sums list (All-head IsFoldable list lists foldable) q))
    (same_all lists (All-tail IsFoldable list lists foldable))

same_at : (lists : List (List Sample)) (source : ℕ) → All IsFoldable lists → SameSums (list_of (map refolded lists) source) (list_of lists source)
same_at [] source foldable = λ q. refl
same_at (list ∷ lists) zero foldable = λ q. sym (refolded-sums list (All-head IsFoldable list lists foldable) q)
same_at (list ∷ lists) (suc source) foldable = same_at lists source (All-tail IsFoldable list lists foldable)

same_top : (top : TopTable) (xs ys : List Sample) → SameSums xs ys → top_text nothing_told top xs ≡ top_text nothing_told top ys
same_top top xs ys same =
    let functions = same_functions top.by xs ys same in
    let weight = same_weights xs ys same in
    λ i. cond top.is_json (functions_line None nothing_told (weight i) (take top.rows (functions i)))
    (functions_table top.is_exact nothing_told (length (functions i)) (weight i) (take top.rows (functions i)))

same_diff : (diff : DiffTable) (old new before after : List Sample) → SameSums old before → SameSums new after → diff_text nothing_told diff old new ≡ diff_text nothing_told diff before after
same_diff diff old new before after first second =
    let olds = same_weights old before first in
    let news = same_weights new after second in
    let order : order_of diff old new ≡ order_of diff before after = λ i. record { by = diff.table.by; whole = cond diff.is_share (Some (record { before = olds i; after = news i })) None } in
    let changes = same_changes (order_of diff old new) old new before after first second ∙ ap (λ (by : ChangeOrder). changes_of by before after) order in
    λ i. cond diff.table.is_json (changes_line [] (olds i) (news i) (take diff.table.rows (changes i)))
    (cond diff.is_share (shares_table diff.table.is_exact nothing_told (length (changes i)) (record { before = olds i; after = news i }) (take diff.table.rows (changes i)))
    (changes_table diff.table.is_exact nothing_told (length (changes i)) (olds i) (news i) (take diff.table.rows (changes i))))

pub same_views : (view : View) (lists : List (List Sample)) → SeesSums view → All IsFoldable lists → view_text view (map refolded lists) [] None ≡ view_text view lists [] None
same_views Fold lists sees foldable = same_folds (all_samples (map refolded lists)) (all_samples lists) (same_all lists foldable)
same_views (Graph width) lists sees foldable =
    let one = all_samples (map refolded lists) in
    let same = same_all lists foldable in
    λ i. boxes_line (codes "graph") (same_weights one (all_samples lists) same i) width (same_graph one (all_samples lists) same i)
same_views (Chart width) lists sees foldable = absurd sees
same_views Pairs lists sees foldable =
    same_pairs (list_of (map refolded lists) 0) (list_of (map refolded lists) 1) (list_of lists 0) (list_of lists 1) (same_at lists 0 foldable) (same_at lists 1 foldable)
same_views (PairBoxes width) lists sees foldable =
    let old = list_of (map refolded lists) 0 in
    let new = list_of (map refolded lists) 1 in
    let first = same_at lists 0 foldable in
    let second = same_at lists 1 foldable in
    λ i. pair_boxes_line (same_weights old (list_of lists 0) first i) (same_weights new (list_of lists 1) second i) width
    (same_boxes old new (list_of lists 0) (list_of lists 1) first second i)
same_views (Top top) lists sees foldable = same_top top (all_samples (map refolded lists)) (all_samples lists) (same_all lists foldable)
same_views (Diff table) lists sees foldable =
    same_diff table (list_of (map refolded lists) 0) (list_of (map refolded lists) 1) (list_of lists 0) (list_of lists 1) (same_at lists 0 foldable) (same_at lists 1 foldable)

limited : (format : Format) (bytes : List ℕ) (pick : Pick) (naming : Naming) → IsSourceLimited (read_bytes format bytes pick naming).samples
limited Folded bytes pick naming = IsSourceLimited-read_folded bytes
limited Pprof bytes pick naming = pprof-limited bytes pick naming

pub source_foldable : (format : Format) (bytes : List ℕ) (pick : Pick) (naming : Naming) → All (λ sample. last_ends_in_number sample.stack ≡ false) (drawn (read_bytes format bytes pick naming).samples)
    → IsFoldable (read_bytes format bytes pick naming).samples
source_foldable format bytes pick naming =
    foldable-from (read_bytes format bytes pick naming).samples (samples_back format bytes pick naming) (limited format bytes pick naming)
