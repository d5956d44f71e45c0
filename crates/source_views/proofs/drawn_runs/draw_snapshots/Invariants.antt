-- the snapshots so far
use Rattle.std.proofs.Common.{◌≡◌, ℕ, Option, map, take}
use Rattle.merged_stacks.specs.Timeline.{samples_of}
use Rattle.source_views.specs.checked.DrawnRuns.{places_of}
use Rattle.source_views.specs.Pages.{snapshot_drawing}
use Rattle.source_views.specs.checked.DrawnRuns.{drawing_in}
use Rattle.source_views.proofs.drawn_runs.draw_snapshots.Given as goal

abbrev pub invariant-loop-place : goal.invariant-loop-place
invariant-loop-place l =
    (least : Option ℕ) → map (drawing_in least) l.drawn.items
    ≡ map (snapshot_drawing least (samples_of l.run.lists) l.run.order) (take l.place (places_of l.run.snapshots))
