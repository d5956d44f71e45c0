use Rattle.call_tree.proofs.Threaded.{IsThreaded}
use Rattle.call_tree.proofs.listing.next_nodes.Given as goal

abbrev pub invariant-loop-parent : goal.invariant-loop-parent
invariant-loop-parent l = IsThreaded l.table l.nodes.links l.parent-items l.parent-index l.next.items
