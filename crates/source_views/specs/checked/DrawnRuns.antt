-- The graph of a run and its snapshots, as the code has drawn them.
use Rattle.std.specs.Prelude.{ℕ, List, [], ◌∷◌, ◌++◌, length, map, Option, None, Some}
use Rattle.sample_tables.specs.declared.samples.Sample.{Sample}
use Rattle.merged_stacks.specs.Timeline.{total_weight}
use Rattle.merging.specs.Snapshots.{snapshot_places}
use Rattle.merging.specs.declared.snapshots.Snapshot.{Snapshot}
use Rattle.merging.specs.Sums.{all_samples}
use denote.Ref.{Bor}
use Rattle.flame_layout.specs.Boxes.{SeenBox, plain_box, span_of}
use Rattle.flame_layout.specs.declared.boxes.DrawnBox.{DrawnBox}
use Rattle.flame_layout.specs.Graph.{graph_of}
use Rattle.page_texts.specs.Page.{PageDrawing}
use Rattle.source_views.specs.declared.drawn_runs.DrawnRun.{DrawnRun}
use Rattle.source_views.specs.declared.drawn_runs.DrawnSnapshot.{DrawnSnapshot}
use Rattle.source_views.specs.Pages.{plain_drawing, snapshot_drawing}

-- the boxes of a list that is lent
abbrev pub drawn_list : Bor (List DrawnBox) → List SeenBox
drawn_list boxes = map (λ drawn. plain_box (span_of drawn)) boxes.now

-- after how many samples each snapshot was made
abbrev pub places_of : List Snapshot → List ℕ
places_of snapshots = map (λ snapshot. snapshot.at) snapshots

abbrev pub drawing_in : Option ℕ → DrawnSnapshot → PageDrawing
drawing_in least snapshot =
    plain_drawing least (Some (record { at = snapshot.at; counts = snapshot.counts.items })) snapshot.graph.total (map span_of snapshot.graph.boxes.items)

-- those of the snapshots, and then that of the graph
abbrev pub drawings_in : Option ℕ → DrawnRun → List PageDrawing
drawings_in least run =
    map (drawing_in least) run.snapshots.items ++ plain_drawing least None run.graph.total (map span_of run.graph.boxes.items) ∷ []

-- the same by the definitions
abbrev pub drawings_of : Option ℕ → List (List Sample) → List ℕ → Option ℕ → List PageDrawing
drawings_of least lists order every =
    map (snapshot_drawing least lists order) (snapshot_places every (length order))
    ++ plain_drawing least None (total_weight (all_samples lists)) (graph_of (all_samples lists)) ∷ []
