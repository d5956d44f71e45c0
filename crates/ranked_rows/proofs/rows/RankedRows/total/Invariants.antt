use Rattle.std.proofs.Common.{◌≡◌, sum_by, take}
use Rattle.ranked_rows.proofs.rows.RankedRows.total.Given as goal

abbrev pub invariant-loop-at : goal.invariant-loop-at
invariant-loop-at l = l.total ≡ sum_by (λ row. row.1) (take l.at l.self)
