use Rattle.std.proofs.Common.{◌≡◌, ◌<◌, ℕ, length, get_or}
use Rattle.call_tree.specs.checked.NodeOrder.{Row, IsRowOf}
use Rattle.call_tree.proofs.listing.sorted_rows.Given as goal

abbrev pub invariant-loop-index : goal.invariant-loop-index
invariant-loop-index l = record {
  len : length l.rows.items ≡ l.index;
  rows_are : (i : ℕ) (d : Row) → i < length l.rows.items → IsRowOf l.table l.nodes.links i (get_or l.rows.items i d);
}
