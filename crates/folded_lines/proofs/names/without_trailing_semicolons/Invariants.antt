-- what is cut off so far does not count
use Rattle.std.proofs.Common.{◌≡◌, ◌≤◌, length, take}
use Rattle.folded_lines.specs.checked.Cutting.{without_trailing_semicolons}
use Rattle.folded_lines.proofs.names.without_trailing_semicolons.Given as goal

abbrev pub invariant-loop-end : goal.invariant-loop-end
invariant-loop-end l =
    (l.end ≤ length l.head) × (without_trailing_semicolons (take l.end l.head) ≡ without_trailing_semicolons l.head)

abbrev pub decreases-loop-end : goal.decreases-loop-end
decreases-loop-end l = l.end
