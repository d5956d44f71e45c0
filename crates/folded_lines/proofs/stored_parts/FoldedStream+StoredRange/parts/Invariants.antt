-- the parts up to a place, each with a reader
use Rattle.std.proofs.Common.{◌-◌, ◌+◌, ◌≡◌, ◌≤◌, All, IfSome, length}
use Rattle.folded_lines.proofs.StoredParts.{AreReadTo, IsSomeRange}
use Rattle.folded_lines.proofs.stored_parts.FoldedStream+StoredRange.parts.Given as goal

abbrev pub invariant-loop-left : goal.invariant-loop-left
invariant-loop-left l = record {
  each : All IsSomeRange l.readers.items;
  parts : IfSome l.text (λ all. AreReadTo all l.readers.items l.begin);
  count : length l.readers.items + l.left ≡ l.count;
  some : 1 ≤ l.left;
}

abbrev pub decreases-loop-left : goal.decreases-loop-left
decreases-loop-left l = l.left - 1
