use Rattle.std.proofs.Common.{◌≡◌, drop}
use Rattle.source_lists.specs.checked.CutStacks.{from_marked}
use Rattle.source_lists.proofs.cut_stacks.first_marked.Given as goal

-- no mark of the numbers so far is set
abbrev pub invariant-loop-at : goal.invariant-loop-at
invariant-loop-at l = from_marked l.marks (drop l.at l.numbers) ≡ from_marked l.marks l.numbers
