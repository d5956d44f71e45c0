-- the names so far are those from the first on
use Rattle.std.proofs.Common.{◌≡◌, drop, take}
use Rattle.folded_lines.proofs.numbering.names_from.Given as goal

abbrev pub invariant-loop-number : goal.invariant-loop-number
invariant-loop-number l = l.names.items ≡ drop l.first (take l.number l.table)
