use Rattle.std.proofs.Common.{◌≡◌, ◌++◌, take}
use Rattle.folded_lines.proofs.known_stacks.append_numbers.Given as goal

abbrev pub invariant-loop-frame : goal.invariant-loop-frame
invariant-loop-frame l = l.numbers.items ≡ l.fn.numbers.items ++ take l.frame-index l.frames
