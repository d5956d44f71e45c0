use Rattle.std.proofs.Common.{◌≡◌, ◌++◌, drop, []}
use Rattle.flame_layout.specs.checked.Paired.{names_now, paired_rows}
use Rattle.flame_layout.proofs.comparisons.pair_rows.Given as goal

abbrev pub invariant-loop-at : goal.invariant-loop-at
invariant-loop-at g l = paired_rows [] l.before l.after ≡ l.rows.items ++ paired_rows (names_now l.path.items) (drop l.at l.before) (drop l.at l.after)
