-- What is seen of a run.
use Rattle.std.specs.Prelude.{◌≡◌, ℕ, List, Option}
use Rattle.stack_core.specs.Ledgers.{ListState}
use Rattle.call_tree.specs.CallTree.{Tree}
use Rattle.flame_layout.specs.declared.boxes.SpanBox.{SpanBox}
use Rattle.merged_stacks.specs.Timeline.{samples_of, timeline}
use Rattle.flame_layout.specs.Chart.{chart_of}
use Rattle.flame_layout.specs.Graph.{graph_of}
use Rattle.merging.specs.declared.snapshots.Snapshot.{Snapshot}
use Rattle.merging.specs.Sums.{all_samples}

-- what was gathered, and the boxes of its graph and of its chart
pub record ViewsState : Type 0 where
  pub lists : List ListState
  pub order : List ℕ
  pub every : Option ℕ
  pub names : List (List ℕ)
  pub tree : Tree
  pub snapshots : List Snapshot
  pub graph : List SpanBox
  pub chart : List SpanBox

-- the boxes are those of the lists
pub record AreBoxesOf (lists : List ListState) (graph chart : List SpanBox) : Type 0 where
  pub graph_is : graph ≡ graph_of (all_samples (samples_of lists))
  pub chart_is : chart ≡ chart_of (timeline (samples_of lists))
