use Rattle.std.proofs.Common.{◌≡◌, length}
use Rattle.call_tree.proofs.hashed_numbers.HashedNumbers.counted.Given as goal

abbrev pub invariant-loop-hash : goal.invariant-loop-hash
invariant-loop-hash l = length l.counts.items ≡ l.places
