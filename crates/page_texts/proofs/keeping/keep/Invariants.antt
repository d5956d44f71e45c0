-- the boxes so far
use Rattle.std.proofs.Common.{◌≤◌, ◌*◌, map, take}
use Rattle.page_texts.specs.Drawn.{page_box}
use Rattle.page_texts.proofs.Names.{KeptSoFar}
use Rattle.page_texts.proofs.keeping.keep.Given as goal

abbrev pub invariant-loop-place : goal.invariant-loop-place
invariant-loop-place g l =
    KeptSoFar l.initial.names l.names l.least (map page_box (take l.place (g.L.FlameBoxes.boxes l.boxes))) l.answer.boxes.items l.answer.left_boxes l.answer.left_weight
    × (l.answer.left_boxes ≤ l.place) × (l.answer.left_weight ≤ 18446744073709551616 * l.place)
