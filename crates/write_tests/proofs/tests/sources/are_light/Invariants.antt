-- What was counted and what is left are the whole room.
use Rattle.std.proofs.Common.{◌≡◌, ◌+◌, take}
use Rattle.merged_stacks.specs.Timeline.{total_weight, timeline, samples_of}
use Rattle.write_tests.proofs.tests.sources.are_light.Given as goal

abbrev pub invariant-loop-list : goal.invariant-loop-list
invariant-loop-list l = l.room + total_weight (timeline (samples_of (take l.list-index l.lists))) ≡ 2000
