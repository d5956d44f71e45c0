use Rattle.std.proofs.Common.{◌≡◌, map, take}
use Rattle.function_sums.specs.checked.Rows.{row_sum}
use Rattle.function_sums.proofs.rows.sums.Given as goal

abbrev pub invariant-loop-row : goal.invariant-loop-row
invariant-loop-row l = l.sums.items ≡ map row_sum (take l.row-index l.rows)
