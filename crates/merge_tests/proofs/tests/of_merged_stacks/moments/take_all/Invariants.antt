use Rattle.std.proofs.Common.{◌≡◌}
use Rattle.merged_stacks.specs.Timeline.{samples_of}
use Rattle.merge_tests.proofs.tests.of_merged_stacks.moments.take_all.Given as goal

abbrev pub invariant-loop-source : goal.invariant-loop-source
invariant-loop-source g l = l.growing.lists ≡ samples_of l.lists
