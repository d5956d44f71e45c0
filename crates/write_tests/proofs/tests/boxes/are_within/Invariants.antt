-- The boxes so far end within the total.
use Rattle.std.proofs.Common.{◌+◌, ◌≤◌, All, take}
use Rattle.write_tests.proofs.tests.boxes.are_within.Given as goal

abbrev pub invariant-loop-place : goal.invariant-loop-place
invariant-loop-place g l = All (λ one. one.span.start + one.span.weight ≤ l.total) (take l.place (g.L.FlameBoxes.boxes l.boxes))
