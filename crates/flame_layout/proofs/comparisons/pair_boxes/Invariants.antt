use Rattle.std.proofs.Common.{◌≡◌, ◌++◌, drop, map}
use Rattle.flame_layout.specs.Boxes.{compared_of}
use Rattle.flame_layout.specs.checked.Paired.{paired_boxes}
use Rattle.flame_layout.proofs.comparisons.pair_boxes.Given as goal

abbrev pub invariant-loop-at : goal.invariant-loop-at
invariant-loop-at g l = paired_boxes l.before l.after ≡ map compared_of l.boxes.items ++ paired_boxes (drop l.at l.before) (drop l.at l.after)
