-- the numbers so far are there
use Rattle.std.proofs.Common.{◌≡◌, take}
use Rattle.folded_lines.proofs.shared_names.begin_alike.Given as goal

abbrev pub invariant-loop-number : goal.invariant-loop-number
invariant-loop-number l = l.frames.items ≡ take l.number-index l.number-items
