use Rattle.std.proofs.Common.{◌≡◌, length}
use Rattle.collect_tests.proofs.tests.of_stack_core.worlds.plays.Given as goal

abbrev pub invariant-loop-event : goal.invariant-loop-event
invariant-loop-event l = length l.world.lanes ≡ length l.initial.world.lanes
