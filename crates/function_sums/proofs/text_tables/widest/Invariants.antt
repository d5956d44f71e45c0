-- the widest so far, and of those that are left
use Rattle.std.proofs.Common.{◌≡◌, drop, map, max}
use Rattle.function_sums.specs.Columns.{widest}
use Rattle.function_sums.specs.checked.Entries.{line_of}
use Rattle.function_sums.proofs.text_tables.widest.Given as goal

abbrev pub invariant-loop-line : goal.invariant-loop-line
invariant-loop-line l =
    max l.width (widest l.column (map (line_of l.saying.is_exact l.saying.unit.now) (drop l.line-index l.lines)))
    ≡ widest l.column (map (line_of l.saying.is_exact l.saying.unit.now) l.lines)
