use Rattle.std.proofs.Common.{◌≡◌, take}
use Rattle.merged_stacks.specs.Timeline.{total_weight, timeline, samples_of}
use Rattle.merged_stacks.proofs.totals.total_weight.Given as goal

abbrev pub invariant-loop-list : goal.invariant-loop-list
invariant-loop-list l = l.total ≡ total_weight (timeline (samples_of (take l.list-index l.lists)))
