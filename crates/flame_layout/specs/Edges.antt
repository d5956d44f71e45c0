-- Where the boxes begin and end in an image.
use Rattle.std.specs.Prelude.{ℕ, ◌+◌, ◌*◌, ◌/◌}
use Rattle.flame_layout.specs.declared.boxes.SpanBox.{SpanBox}
use Rattle.flame_layout.specs.declared.boxes.PlacedBox.{PlacedBox}

-- where a box begins and where it ends, in an image of the width whose boxes span the total
abbrev pub left_edge : ℕ → ℕ → SpanBox → ℕ
left_edge total width span = span.start * width / total

abbrev pub right_edge : ℕ → ℕ → SpanBox → ℕ
right_edge total width span = (span.start + span.weight) * width / total

-- the box with its edges
abbrev pub placed_at : ℕ → ℕ → SpanBox → PlacedBox
placed_at total width span = record {
  depth = span.depth;
  name = span.name;
  start = span.start;
  weight = span.weight;
  own = span.own;
  left = left_edge total width span;
  right = right_edge total width span;
}
