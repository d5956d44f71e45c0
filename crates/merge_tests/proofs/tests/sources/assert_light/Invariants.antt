use Rattle.std.proofs.Common.{◌≡◌, ◌+◌, take}
use Rattle.merged_stacks.specs.Timeline.{total_weight, timeline, samples_of}
use Rattle.merge_tests.proofs.tests.sources.assert_light.Given as goal

abbrev pub invariant-loop-list : goal.invariant-loop-list
invariant-loop-list g l = l.room + total_weight (timeline (samples_of (take l.list-index l.lists))) ≡ l.limit
