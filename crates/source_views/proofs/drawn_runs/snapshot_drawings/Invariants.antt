-- the snapshots so far
use Rattle.std.proofs.Common.{◌≡◌, map, take}
use Rattle.page_texts.specs.Drawn.{drawing_of}
use Rattle.source_views.specs.checked.DrawnRuns.{drawing_in, drawn_list}
use Rattle.source_views.proofs.drawn_runs.snapshot_drawings.Given as goal

abbrev pub invariant-loop-snapshot : goal.invariant-loop-snapshot
invariant-loop-snapshot l = map (drawing_of drawn_list) l.drawings.items ≡ map (drawing_in l.heading.least) (take l.snapshot-index l.snapshots)
