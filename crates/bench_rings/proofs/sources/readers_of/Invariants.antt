-- There are no more readers than turns.
use Rattle.std.proofs.Common.{◌≤◌, length}
use Rattle.bench_rings.proofs.sources.readers_of.Given as goal

abbrev pub invariant-loop : goal.invariant-loop
invariant-loop l = (length l.readers.items ≤ l.counter) × (l.counter ≤ 64)
