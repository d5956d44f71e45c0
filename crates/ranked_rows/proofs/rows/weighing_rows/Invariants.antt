use Rattle.std.proofs.Common.{◌≡◌, ◌++◌, drop}
use Rattle.ranked_rows.specs.checked.Entries.{weighing_rows}
use Rattle.ranked_rows.proofs.rows.weighing_rows.Given as goal

-- the rows so far and those of the spans that are left are all rows
abbrev pub invariant-loop-at : goal.invariant-loop-at
invariant-loop-at l = l.rows.items ++ weighing_rows (drop l.at l.spans) (drop l.at l.weights) ≡ weighing_rows l.spans l.weights
