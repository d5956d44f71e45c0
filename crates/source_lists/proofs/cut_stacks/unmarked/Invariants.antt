use Rattle.std.proofs.Common.{◌≡◌, take}
use Rattle.source_lists.specs.checked.CutStacks.{unmarked}
use Rattle.source_lists.proofs.cut_stacks.unmarked.Given as goal

abbrev pub invariant-loop-number : goal.invariant-loop-number
invariant-loop-number l = l.left.items ≡ unmarked l.marks (take l.number-index l.numbers)
