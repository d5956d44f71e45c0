use Rattle.std.proofs.Common.{◌≡◌, map, take}
use Rattle.ranked_rows.proofs.rows.weights.Given as goal

abbrev pub invariant-loop-entry : goal.invariant-loop-entry
invariant-loop-entry l = l.weights.items ≡ map (λ entry. entry.1) (take l.entry-index l.entries)
