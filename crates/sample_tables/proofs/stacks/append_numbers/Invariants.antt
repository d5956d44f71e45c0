use Rattle.std.proofs.Common.{◌≡◌, ◌++◌, take}
use Rattle.sample_tables.proofs.stacks.append_numbers.Given as goal

abbrev pub invariant-loop-number : goal.invariant-loop-number
invariant-loop-number l = l.frames.items ≡ l.fn.frames.items ++ take l.number-index l.numbers
