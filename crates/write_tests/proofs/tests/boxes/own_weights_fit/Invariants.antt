-- What was counted and what is left are the greatest number.
use Rattle.std.proofs.Common.{◌≡◌, ◌+◌, ◌-◌, ◌^◌, sum_by, take}
use Rattle.write_tests.proofs.tests.boxes.own_weights_fit.Given as goal

abbrev pub invariant-loop-place : goal.invariant-loop-place
invariant-loop-place g l = l.left + sum_by (λ one. one.span.own) (take l.place (g.L.FlameBoxes.boxes l.boxes)) ≡ 2 ^ 64 - 1
