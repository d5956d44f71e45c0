use Rattle.std.proofs.Common.{◌-◌, ◌+◌, ◌≡◌, ◌≤◌, ◌++◌, All, length}
use Rattle.std.specs.List.{concat}
use Rattle.folded_lines.specs.TextParts.{IsWholeLines}
use Rattle.folded_lines.proofs.parts.cut_at_lines.Given as goal

abbrev pub invariant-loop-left : goal.invariant-loop-left
invariant-loop-left l = record {
  whole : concat l.parts.items ++ l.rest ≡ l.fn.text;
  lines : All IsWholeLines l.parts.items;
  count : length l.parts.items + l.left ≡ l.count;
  some : 1 ≤ l.left;
}

abbrev pub decreases-loop-left : goal.decreases-loop-left
decreases-loop-left l = l.left - 1
