use Rattle.std.proofs.Common.{◌≡◌, take}
use Rattle.source_lists.proofs.joined_stacks.are_same.Given as goal

abbrev pub invariant-loop-at : goal.invariant-loop-at
invariant-loop-at l = take l.at l.stack ≡ take l.at l.numbers
