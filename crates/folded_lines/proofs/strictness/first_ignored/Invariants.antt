-- the first line without a count is that of what is left
use Rattle.std.proofs.Common.{◌≡◌, ◌-◌, ◌≤◌, drop, length}
use Rattle.folded_lines.specs.checked.Strictness.{first_ignored, lines_in}
use Rattle.folded_lines.proofs.strictness.first_ignored.Given as goal

abbrev pub invariant-loop-position : goal.invariant-loop-position
invariant-loop-position l = record {
  few : l.taken ≤ l.position;
  within : l.position ≤ length l.bytes;
  same : first_ignored 0 (lines_in l.bytes) ≡ first_ignored l.taken (lines_in (drop l.position l.bytes));
}

abbrev pub decreases-loop-position : goal.decreases-loop-position
decreases-loop-position l = length l.bytes - l.position
