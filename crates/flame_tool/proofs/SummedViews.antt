-- The text of each view is given by the sums of its samples.
use Rattle.std.proofs.Common.{◌≡◌, ℕ, ◌+◌, Bool, true, cond, List, ◌∷◌, ◌++◌, length, map, take, sum_by, Option, None, Some, refl, sym, ap, ◌∙◌, arith}
use Rattle.std.specs.Prelude.{codes, if◌then◌else◌}
use Rattle.std.specs.List.{zip}
use Rattle.std.specs.Str.{bytes_eq}
use Rattle.std.specs.Cmp.Lexicographic.{pointwise}
use Rattle.std.proofs.lemmas.List.Sums.{sum_by-append}
use Rattle.sample_tables.specs.declared.samples.Sample.{Sample}
use Rattle.merged_stacks.specs.Timeline.{Stack, total_weight}
use Rattle.flame_layout.specs.Comparison.{compared_boxes_of, row_of, compared_box}
use Rattle.flame_layout.specs.Paths.{SameOwn, total_at}
use Rattle.flame_layout.proofs.MergedSums.{same_rows}
use Rattle.flame_layout.proofs.PathWords.{own_at-is, total_at-is}
use Rattle.flame_layout.proofs.Sums.{SameSums, same_graph, same_paths, same_tested, same_totals}
use Rattle.view_texts.specs.Fold.{fold_text, lines_of}
use Rattle.view_texts.specs.Json.{boxes_line, pair_boxes_line}
use Rattle.view_texts.specs.Pairs.{pair_lines_of, pairs_of, pairs_text}
use Rattle.function_sums.specs.Calls.{beside_in, call_of, calls_of, last_two, with_beside}
use Rattle.function_sums.specs.ChangeJson.{changes_line}
use Rattle.function_sums.specs.ChangeTable.{changes_table, shares_table}
use Rattle.function_sums.specs.DiffTexts.{wholes}
use Rattle.function_sums.specs.FunctionJson.{functions_line}
use Rattle.function_sums.specs.FunctionList.{changes_of}
use Rattle.function_sums.specs.FunctionSums.{ends, stands_in, sum_cmp, sums_of, total_of}
use Rattle.function_sums.specs.FunctionTable.{functions_table, listed_table}
use Rattle.function_sums.specs.Growth.{grown}
use Rattle.function_sums.specs.Told.{Told}
use Rattle.function_sums.specs.declared.call_sides.CallSide.{CallSide}
use Rattle.function_sums.specs.declared.call_sides.CallSide.TheVariants.{Callers, Callees}
use Rattle.function_sums.specs.declared.changes.FunctionChange.{FunctionChange}
use Rattle.function_sums.specs.declared.sums.FunctionSum.{FunctionSum}
use Rattle.run_options.specs.declared.orders.FunctionOrder.TheVariants.{Total}
use Rattle.function_sums.proofs.CutSamples.{cut-tested}
use Rattle.function_sums.proofs.FunctionList.{calls_alone, calls_listed, same_changes, same_functions}
use Rattle.function_sums.proofs.OneTable.{told_alike}
use Rattle.command_line.specs.declared.plans.CallTable.{CallTable}
use Rattle.command_line.specs.declared.plans.DiffTable.{DiffTable}
use Rattle.command_line.specs.declared.plans.TopTable.{TopTable}
use Rattle.source_views.specs.Texts.{calls_text, diff_text, graph_line, grown_over, order_of, pair_boxes_text, peek_text, top_text}

-- ---- one list

-- the texts of functions and of calls, of what the samples weigh
abbrev top_shown : Told → TopTable → ℕ → List FunctionSum → List ℕ
top_shown told top weight functions =
    if top.is_json then functions_line None told weight (take top.rows functions)
    else functions_table top.is_exact told (length functions) weight (take top.rows functions)

abbrev calls_shown : Told → CallSide → CallTable → FunctionSum → List FunctionSum → List ℕ
calls_shown told side table function calls =
    if table.is_json then functions_line (Some side) told function.total (function ∷ take table.rows calls)
    else listed_table table.is_exact told side (length calls) function (take table.rows calls)

module _ (one other : List Sample) (same : SameSums one other) where
  own_is : SameOwn one other
  own_is path = own_at-is path one ∙ same path ∙ sym (own_at-is path other)

  total_is : (path : Stack) → total_at path one ≡ total_at path other
  total_is path = total_at-is path one ∙ same_totals one other same path ∙ sym (total_at-is path other)

  pub weight_is : total_weight one ≡ total_weight other
  weight_is = same_tested (λ _. true) (length one) one other (omega arith) same

  pub fold_is : fold_text one ≡ fold_text other
  fold_is = ap lines_of (same_rows one other own_is)

  pub graph_is : (width : ℕ) → graph_line width one ≡ graph_line width other
  graph_is width = λ i. boxes_line (codes "graph") (weight_is i) width (same_graph one other same i)

  pub top_is : (told : Told) (top : TopTable) → top_text told top one ≡ top_text told top other
  top_is told top = λ i. top_shown told top (weight_is i) (same_functions top.by one other same i)

  function_is : (name : List ℕ) → sums_of one name ≡ sums_of other name
  function_is name = λ i. record {
    name = name;
    own = same_tested (ends name) (length one) one other (omega arith) same i;
    total = same_tested (stands_in name) (length one) one other (omega arith) same i;
  }

  -- of stacks that are cut
  cut_is : (test : Stack → Bool) (cut : Stack → Stack) → sum_by (λ sample. cond (test sample.stack) sample.weight 0) (map (λ (sample : Sample). (let s : Sample = record { stack = cut sample.stack; weight = sample.weight } in s)) one)
      ≡ sum_by (λ sample. cond (test sample.stack) sample.weight 0) (map (λ (sample : Sample). (let s : Sample = record { stack = cut sample.stack; weight = sample.weight } in s)) other)
  cut_is test cut = cut-tested test cut one ∙ same_tested (λ stack. test (cut stack)) (length one) one other (omega arith) same ∙ sym (cut-tested test cut other)

  module _ (side : CallSide) (name : List ℕ) where
    beside_is : (frame : List ℕ) → total_of frame (with_beside side name one) ≡ total_of frame (with_beside side name other)
    beside_is frame = cut_is (stands_in frame) (beside_in side name)

    call_is : (frame : List ℕ) → call_of side name one frame ≡ call_of side name other frame
    call_is frame = λ i. record {
      name = frame;
      own = cut_is (ends frame) (λ stack. beside_in side name (last_two stack)) i;
      total = beside_is frame i;
    }

    calls_are : calls_of side name one ≡ calls_of side name other
    calls_are =
        calls_alone side name other (calls_of side name one)
        (told_alike (sum_cmp Total) (λ sum. sum.name) (call_of side name one) (call_of side name other) (λ frame. total_of frame (with_beside side name one)) (λ frame. total_of frame (with_beside side name other))
        (calls_of side name one) call_is beside_is (calls_listed side name one))

  pub calls_is : (told : Told) (side : CallSide) (table : CallTable) → calls_text told side table one ≡ calls_text told side table other
  calls_is told side table = λ i. calls_shown told side table (function_is table.name i) (calls_are side table.name i)

  pub peek_is : (told : Told) (table : CallTable) → peek_text told table one ≡ peek_text told table other
  peek_is told table = λ i. calls_is told Callers table i ++ calls_is told Callees table i

-- ---- two lists

abbrev diff_shown : Told → DiffTable → ℕ → ℕ → List FunctionChange → List ℕ
diff_shown told diff before after changes =
    if diff.table.is_json then changes_line told.unit before after (take diff.table.rows changes)
    else (if diff.is_share then shares_table diff.table.is_exact told (length changes) (record { before = before; after = after }) (take diff.table.rows changes)
    else changes_table diff.table.is_exact told (length changes) before after (take diff.table.rows changes))

module _ (old new before after : List Sample) (first : SameSums old before) (second : SameSums new after) where
  joint : SameSums (old ++ new) (before ++ after)
  joint path =
      let own : Sample → ℕ = λ sample. cond (pointwise bytes_eq path sample.stack) sample.weight 0 in
      sum_by-append own old new ∙ (λ i. first path i + second path i) ∙ sym (sum_by-append own before after)

  row_is : row_of old new ≡ row_of before after
  row_is = λ i path. record {
    path = path;
    total_before = total_is old before first path i;
    total_after = total_is new after second path i;
    own_before = own_is old before first path i;
    own_after = own_is new after second path i;
  }

  pub pairs_is : pairs_text old new ≡ pairs_text before after
  pairs_is = λ i. pair_lines_of (pairs_of (map (row_is i) (same_paths (old ++ new) (before ++ after) joint i)))

  box_is : compared_box old ≡ compared_box before
  box_is = λ i pair. record { span = pair.0; before = total_is old before first pair.1 i }

  pub boxes_are : compared_boxes_of old new ≡ compared_boxes_of before after
  boxes_are = λ i. map (box_is i) (zip (same_graph new after second i) (same_paths new after second i))

  pub pair_boxes_is : (width : ℕ) → pair_boxes_text width old new ≡ pair_boxes_text width before after
  pair_boxes_is width = λ i. pair_boxes_line (weight_is old before first i) (weight_is new after second i) width (boxes_are i)

  wholes_are : wholes old new ≡ wholes before after
  wholes_are = λ i. record { before = weight_is old before first i; after = weight_is new after second i }

  order_is : (diff : DiffTable) → order_of diff old new ≡ order_of diff before after
  order_is diff = λ i. record { by = diff.table.by; whole = if diff.is_share then Some (wholes_are i) else None }

  changes_are : (diff : DiffTable) → changes_of (order_of diff old new) old new ≡ changes_of (order_of diff before after) before after
  changes_are diff = ap (λ by. changes_of by old new) (order_is diff) ∙ same_changes (order_of diff before after) old new before after first second

  pub diff_is : (told : Told) (diff : DiffTable) → diff_text told diff old new ≡ diff_text told diff before after
  diff_is told diff = λ i. diff_shown told diff (weight_is old before first i) (weight_is new after second i) (changes_are diff i)

  pub grown_is : (limit : Option ℕ) (diff : DiffTable) → grown_over limit (order_of diff old new) old new ≡ grown_over limit (order_of diff before after) before after
  grown_is None diff = refl
  grown_is (Some points) diff = λ i. map (λ (change : FunctionChange). change.name) (grown points (wholes_are i) (changes_are diff i))
