-- those before the place are counted
use Rattle.std.proofs.Common.{◌≡◌, take, count_by}
use Rattle.folded_lines.specs.Lines.{is_semicolon}
use Rattle.folded_lines.proofs.shared_names.count_semicolons.Given as goal

abbrev pub invariant-loop-at : goal.invariant-loop-at
invariant-loop-at l = l.count ≡ count_by is_semicolon (take l.at l.bytes)
