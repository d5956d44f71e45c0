-- The text of each view, of the collected lists and the order of arrival.
use Rattle.std.specs.Prelude.{◌≡◌, ℕ, List, [], ◌++◌, Option, None, Some, codes, length, map, if◌then◌else◌}
use Rattle.std.specs.List.{flat_map, range_with_len}
use Rattle.sample_tables.specs.declared.samples.Sample.{Sample}
use Rattle.stack_core.specs.Interleaving.{counts_at, list_of}
use Rattle.merged_stacks.specs.Timeline.{timeline, total_weight}
use Rattle.flame_layout.specs.Chart.{chart_of}
use Rattle.flame_layout.specs.Graph.{graph_of}
use Rattle.flame_layout.specs.Comparison.{compared_boxes_of}
use Rattle.view_texts.specs.Fold.{fold_text}
use Rattle.view_texts.specs.Json.{boxes_line, snapshot_line, pair_boxes_line}
use Rattle.view_texts.specs.Pairs.{pairs_text}
use Rattle.merging.specs.Snapshots.{snapshot_samples, snapshot_places}
use Rattle.merging.specs.Sums.{all_samples}
use Rattle.function_sums.specs.CallTexts.{calls_line, calls_table}
use Rattle.function_sums.specs.FunctionList.{changes_of}
use Rattle.function_sums.specs.Growth.{grown}
use Rattle.function_sums.specs.declared.changes.ChangeOrder.{ChangeOrder}
use Rattle.function_sums.specs.DiffTexts.{diff_table, diff_line, share_table, wholes}
use Rattle.function_sums.specs.GrownLine.{grown_line}
use Rattle.function_sums.specs.Told.{Told, nothing_told}
use Rattle.function_sums.specs.TopTexts.{top_table, top_line}
use Rattle.function_sums.specs.declared.call_sides.CallSide.{CallSide}
use Rattle.function_sums.specs.declared.call_sides.CallSide.TheVariants.{Callers, Callees}
use Rattle.command_line.specs.Plans.{limit_of}
use Rattle.command_line.specs.declared.plans.CallTable.{CallTable}
use Rattle.command_line.specs.declared.plans.DiffTable.{DiffTable}
use Rattle.command_line.specs.declared.plans.TopTable.{TopTable}
use Rattle.command_line.specs.declared.plans.View.{View}
use Rattle.command_line.specs.declared.plans.View.TheVariants.{Fold, Graph, Chart, Pairs, PairBoxes, Top, Diff}

-- the flame graph of samples
abbrev pub graph_line : ℕ → List Sample → List ℕ
graph_line width samples = boxes_line (codes "graph") (total_weight samples) width (graph_of samples)

-- how often each source stands among the first m of the order
abbrev pub all_counts : ℕ → List ℕ → List (List Sample) → List ℕ
all_counts m order lists = map (counts_at m order) (range_with_len 0 (length lists))

-- the flame graph of each source's first samples, as many as stand among the first m of the order
abbrev pub snapshot_line_at : ℕ → List ℕ → List (List Sample) → ℕ → List ℕ
snapshot_line_at width order lists m =
    let samples = snapshot_samples m order lists in
    snapshot_line m (all_counts m order lists) (total_weight samples) width (graph_of samples)

abbrev pub snapshot_lines : ℕ → List (List Sample) → List ℕ → List ℕ → List ℕ
snapshot_lines width lists order places = flat_map (snapshot_line_at width order lists) places

-- a line for each snapshot, and then the flame graph of all samples
abbrev pub graph_text : ℕ → List (List Sample) → List ℕ → Option ℕ → List ℕ
graph_text width lists order every =
    snapshot_lines width lists order (snapshot_places every (length order)) ++ graph_line width (all_samples lists)

-- the flame chart of the sources one after another
abbrev pub chart_text : ℕ → List (List Sample) → List ℕ
chart_text width lists =
    boxes_line (codes "chart") (total_weight (timeline lists)) width (chart_of (timeline lists))

-- the flame graph of the second profile, with the weights of the first
abbrev pub pair_boxes_text : ℕ → List Sample → List Sample → List ℕ
pair_boxes_text width before after =
    pair_boxes_line (total_weight before) (total_weight after) width (compared_boxes_of before after)

-- the heaviest functions: their table, or their line of JSON. What is told of the samples, the text tells too: the type and the
-- unit of their weights, and what part of the weight of all samples the functions are
abbrev pub top_text : Told → TopTable → List Sample → List ℕ
top_text told top samples =
    if top.is_json then top_line told top.by top.rows samples else top_table top.is_exact told top.by top.rows samples

-- by what the functions with the greatest changes are listed: by weight, or by share of what both sides weigh
abbrev pub order_of : DiffTable → List Sample → List Sample → ChangeOrder
order_of diff before after = record {
  by = diff.table.by;
  whole = if diff.is_share then Some (wholes before after) else None;
}

-- their table, of weights or of shares, or their line of JSON, which has the weights in any case
abbrev pub diff_text : Told → DiffTable → List Sample → List Sample → List ℕ
diff_text told diff before after =
    let by = order_of diff before after in
    if diff.table.is_json then diff_line told by diff.table.rows before after
    else (if diff.is_share then share_table diff.table.is_exact told by diff.table.rows before after
    else diff_table diff.table.is_exact told by diff.table.rows before after)

-- the names of the functions whose share of own weight grew by more than the limit, if there is one, in the order of the table
abbrev pub grown_over : Option ℕ → ChangeOrder → List Sample → List Sample → List (List ℕ)
grown_over None by before after = []
grown_over (Some points) by before after = map (λ change. change.name) (grown points (wholes before after) (changes_of by before after))

-- what is said of names, where there is a limit
abbrev pub limit_line : Option ℕ → List (List ℕ) → List ℕ
limit_line None names = []
limit_line (Some points) names = grown_line points names

abbrev pub diff_growth : DiffTable → List Sample → List Sample → List ℕ
diff_growth diff before after = limit_line diff.fail_over (grown_over diff.fail_over (order_of diff before after) before after)

abbrev pub grown_names : View → List (List Sample) → List (List ℕ)
grown_names Fold lists = []
grown_names (Graph width) lists = []
grown_names (Chart width) lists = []
grown_names Pairs lists = []
grown_names (PairBoxes width) lists = []
grown_names (Top top) lists = []
grown_names (Diff diff) lists =
    grown_over diff.fail_over (order_of diff (list_of lists 0) (list_of lists 1)) (list_of lists 0) (list_of lists 1)

-- what is said of them: nothing where there is none
abbrev pub growth_line : View → List (List Sample) → List ℕ
growth_line view lists = limit_line (limit_of view) (grown_names view lists)

-- a function and its callers, or its callees: their table, or their line of JSON
abbrev pub calls_text : Told → CallSide → CallTable → List Sample → List ℕ
calls_text told side table samples =
    if table.is_json then calls_line told side table.name table.rows samples else calls_table table.is_exact told side table.name table.rows samples

-- the function with both: the text of its callers and then that of its callees
abbrev pub peek_text : Told → CallTable → List Sample → List ℕ
peek_text told table samples = calls_text told Callers table samples ++ calls_text told Callees table samples

abbrev pub view_text : View → List (List Sample) → List ℕ → Option ℕ → List ℕ
view_text Fold lists order every = fold_text (all_samples lists)
view_text (Graph width) lists order every = graph_text width lists order every
view_text (Chart width) lists order every = chart_text width lists
view_text Pairs lists order every = pairs_text (list_of lists 0) (list_of lists 1)
view_text (PairBoxes width) lists order every = pair_boxes_text width (list_of lists 0) (list_of lists 1)
view_text (Top top) lists order every = top_text nothing_told top (all_samples lists)
view_text (Diff table) lists order every = diff_text nothing_told table (list_of lists 0) (list_of lists 1)

-- the same, where more may be told of the samples: the tables of functions are the texts that tell it
abbrev pub told_text : Told → View → List (List Sample) → List ℕ → Option ℕ → List ℕ
told_text told Fold lists order every = view_text Fold lists order every
told_text told (Graph width) lists order every = view_text (Graph width) lists order every
told_text told (Chart width) lists order every = view_text (Chart width) lists order every
told_text told Pairs lists order every = view_text Pairs lists order every
told_text told (PairBoxes width) lists order every = view_text (PairBoxes width) lists order every
told_text told (Top top) lists order every = top_text told top (all_samples lists)
told_text told (Diff table) lists order every = diff_text told table (list_of lists 0) (list_of lists 1)

-- the text is the same in whatever order the samples come, since it has no snapshots
abbrev pub IsOrderless : View → Option ℕ → Type 0
IsOrderless Fold every = Unit {0}
IsOrderless (Graph width) every = every ≡ None
IsOrderless (Chart width) every = Unit {0}
IsOrderless Pairs every = Unit {0}
IsOrderless (PairBoxes width) every = Unit {0}
IsOrderless (Top top) every = Unit {0}
IsOrderless (Diff table) every = Unit {0}
