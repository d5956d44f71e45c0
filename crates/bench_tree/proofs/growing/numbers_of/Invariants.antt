use Rattle.std.proofs.Common.{◌≡◌, take}
use Rattle.bench_tree.proofs.growing.numbers_of.Given as goal

abbrev pub invariant-loop-number : goal.invariant-loop-number
invariant-loop-number l = l.numbers.items ≡ take l.number-index l.stack
