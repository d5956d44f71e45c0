use Rattle.std.proofs.Common.{◌≡◌, ◌++◌, drop, map}
use Rattle.flame_layout.specs.Boxes.{span_of}
use Rattle.flame_layout.specs.checked.Listed.{listed_boxes}
use Rattle.flame_layout.proofs.graphs.visit_boxes.Given as goal

abbrev pub invariant-loop-visit : goal.invariant-loop-visit
invariant-loop-visit l = listed_boxes l.table 0 l.visits ≡ map span_of l.boxes.items ++ listed_boxes l.table l.start (drop l.visit-index l.visits)
