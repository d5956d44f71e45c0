use Rattle.std.proofs.Common.{◌≡◌}
use Rattle.merged_stacks.specs.Timeline.{samples_of}
use Rattle.merge_tests.proofs.tests.of_merged_stacks.moments.show_moments.Given as goal

abbrev pub invariant-loop-moment : goal.invariant-loop-moment
invariant-loop-moment g l = l.growing.lists ≡ samples_of l.lists
