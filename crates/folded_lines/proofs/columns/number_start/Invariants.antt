-- what was passed so far may stand in a number
use Rattle.std.proofs.Common.{◌≡◌, ◌≤◌, true, length, drop}
use Rattle.std.specs.List.{list_all}
use Rattle.folded_lines.specs.checked.Cutting.{is_digit_or_point}
use Rattle.folded_lines.proofs.columns.number_start.Given as goal

abbrev pub invariant-loop-start : goal.invariant-loop-start
invariant-loop-start l = (l.start ≤ length l.text) × (list_all is_digit_or_point (drop l.start l.text) ≡ true)

abbrev pub decreases-loop-start : goal.decreases-loop-start
decreases-loop-start l = l.start
