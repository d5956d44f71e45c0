-- all numbers of tenths so far are less than the change
use Rattle.std.proofs.Common.{◌+◌, ◌-◌, ◌*◌, ◌≤◌, ◌<◌}
use Rattle.svg_texts.proofs.fills.shade.Given as goal

abbrev pub invariant-loop-shade : goal.invariant-loop-shade
invariant-loop-shade l = (l.shade ≤ 10) × (l.shade * l.most < 10 * l.change + l.most)

abbrev pub decreases-loop-shade : goal.decreases-loop-shade
decreases-loop-shade l = 10 - l.shade
