-- The rows of two charts of the same stacks, as the code that compares makes them.
use Rattle.std.specs.Prelude.{ℕ, nat_lt, ◌-◌, ◌==◌, List, [], ◌∷◌, ◌++◌, take, length, if◌then◌else◌, map}
use denote.Ref.{Bor}
use Rattle.merged_stacks.specs.Timeline.{Stack}
use Rattle.flame_layout.specs.declared.boxes.SpanBox.{SpanBox}
use Rattle.flame_layout.specs.declared.boxes.PairRow.{PairRow}
use Rattle.flame_layout.specs.declared.boxes.ComparedBox.{ComparedBox}
use Rattle.flame_layout.specs.Chart.{box_name}

-- names that are lent
abbrev pub names_now : List (Bor (List ℕ)) → Stack
names_now names = map (λ name. name.now) names

-- the path of a box, by the path of the box before it
abbrev pub next_path : Stack → SpanBox → Stack
next_path before span = if span.depth == 0 then [] else take (span.depth - 1) before ++ span.name ∷ []

-- the row of a path, by its boxes in both charts
abbrev pub paired_row : Stack → SpanBox → SpanBox → PairRow
paired_row path left right = record {
  path = path;
  total_before = left.weight;
  total_after = right.weight;
  own_before = left.own;
  own_after = right.own;
}

-- the rows of boxes that stand in step, after a path
abbrev pub paired_rows : Stack → List SpanBox → List SpanBox → List PairRow
paired_rows before [] rights = []
paired_rows before (left ∷ lefts) [] = []
paired_rows before (left ∷ lefts) (right ∷ rights) = paired_row (next_path before left) left right ∷ paired_rows (next_path before left) lefts rights

-- the boxes of the second chart that weigh, each with the weight of that in the first
abbrev pub paired_boxes : List SpanBox → List SpanBox → List ComparedBox
paired_boxes [] rights = []
paired_boxes (left ∷ lefts) [] = []
paired_boxes (left ∷ lefts) (right ∷ rights) =
    if nat_lt 0 right.weight then record { span = right; before = left.weight } ∷ paired_boxes lefts rights else paired_boxes lefts rights

-- the box of a row, which starts at a place
abbrev pub row_box : ℕ → PairRow → ComparedBox
row_box start row = record {
  span = record {
    depth = length row.path;
    name = box_name (length row.path) row.path;
    start = start;
    weight = row.total_after;
    own = row.own_after;
  };
  before = row.total_before;
}
