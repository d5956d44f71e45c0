use Rattle.std.proofs.Common.{◌≡◌, ◌+◌, ◌<◌, ℕ, length, get_or}
use Rattle.call_tree.proofs.Depths.{IsDepth}
use Rattle.call_tree.proofs.listing.depths.Given as goal

abbrev pub invariant-loop-index : goal.invariant-loop-index
invariant-loop-index l = record {
  len : length l.depths.items ≡ l.index + 1;
  depths_are : (node d : ℕ) → node < length l.depths.items → IsDepth l.nodes.links node (get_or l.depths.items node d);
}
