-- The comparison of two profiles: its rows and its boxes.
use Rattle.std.specs.Prelude.{List, ◌++◌, map}
use Rattle.std.specs.List.{zip}
use Rattle.sample_tables.specs.declared.samples.Sample.{Sample}
use Rattle.flame_layout.specs.declared.boxes.SpanBox.{SpanBox}
use Rattle.flame_layout.specs.declared.boxes.PairRow.{PairRow}
use Rattle.flame_layout.specs.declared.boxes.ComparedBox.{ComparedBox}
use Rattle.merged_stacks.specs.Timeline.{Stack, drawn}
use Rattle.flame_layout.specs.Graph.{sorted_by_stack, graph_of}
use Rattle.flame_layout.specs.Paths.{total_at, own_at, paths_of}

-- a path with its sums in both profiles
abbrev pub row_of : List Sample → List Sample → Stack → PairRow
row_of before after path = record {
  path = path;
  total_before = total_at path before;
  total_after = total_at path after;
  own_before = own_at path before;
  own_after = own_at path after;
}

-- the comparison of two profiles: a row for each path of the graph of both together, in its order
abbrev pub comparison_of : List Sample → List Sample → List PairRow
comparison_of before after = map (row_of before after) (paths_of (sorted_by_stack (drawn (before ++ after))))

-- a box with the first profile's total of its path
abbrev pub compared_box : List Sample → SpanBox × Stack → ComparedBox
compared_box before (span, path) = record { span = span; before = total_at path before }

-- the boxes of the comparison: those of the flame graph of the second profile, each with the first profile's total of its path
abbrev pub compared_boxes_of : List Sample → List Sample → List ComparedBox
compared_boxes_of before after = map (compared_box before) (zip (graph_of after) (paths_of (sorted_by_stack (drawn after))))
