-- the spaces so far
use Rattle.std.proofs.Common.{◌≡◌, ◌++◌, replicate}
use Rattle.function_sums.proofs.entries.append_spaces.Given as goal

abbrev pub invariant-loop : goal.invariant-loop
invariant-loop l = l.out.items ≡ l.fn.out.items ++ replicate l.counter 32
