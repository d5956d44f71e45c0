use Rattle.std.proofs.Common.{◌≡◌, map, take}
use Rattle.flame_layout.proofs.flame_boxes.span_boxes.Given as goal

abbrev pub invariant-loop-place : goal.invariant-loop-place
invariant-loop-place g l = l.boxes.items ≡ map (λ seen. seen.span) (take l.place (g.L.FlameBoxes.boxes l.list))
