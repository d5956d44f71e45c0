-- What the laws of graphs, comparisons and images say.
use Rattle.std.specs.Prelude.{◌≡◌, ◌<◌, ◌+◌, ◌↔◌, ℕ, List, ◌∷◌, map, Contains}
use Rattle.sample_tables.specs.declared.samples.Sample.{Sample}
use Rattle.flame_layout.specs.declared.boxes.SpanBox.{SpanBox}
use Rattle.merged_stacks.specs.Timeline.{Stack}
use Rattle.flame_layout.specs.Graph.{graph_of}
use Rattle.flame_layout.specs.Edges.{left_edge, right_edge}
use Rattle.flame_layout.specs.Paths.{total_at, visit_at, boxes_of_visits, IsRising}

-- the graph has one box for each path with weight, in the order of the paths: its weight is the path's total, its own weight
-- the path's own, and it starts at the sum of the own weights of the paths before it
pub record HasOneBoxAPath (samples : List Sample) : Type 0 where
  pub paths : List Stack
  pub rise : IsRising paths
  pub all : (path : Stack) → Contains paths path ↔ (0 < total_at path samples)
  pub boxes : graph_of samples ≡ boxes_of_visits 0 (map (visit_at samples) paths)

-- the paths of a comparison are those with weight on either side, rising
pub record AreComparedPaths (before after : List Sample) (paths : List Stack) : Type 0 where
  pub rise : IsRising paths
  pub all : (path : Stack) → Contains paths path ↔ (0 < total_at path before + total_at path after)

-- the root's box spans the image
pub record SpansWidth (total width : ℕ) (boxes : List SpanBox) : Type 0 where
  pub root : SpanBox
  pub rest : List SpanBox
  pub first : boxes ≡ root ∷ rest
  pub depth : root.depth ≡ 0
  pub left : left_edge total width root ≡ 0
  pub right : right_edge total width root ≡ width
