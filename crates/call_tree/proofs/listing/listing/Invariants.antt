use Rattle.call_tree.proofs.Listed.{IsVisited}
use Rattle.call_tree.proofs.listing.listing.Given as goal

abbrev pub invariant-loop : goal.invariant-loop
invariant-loop l = IsVisited l.table l.nodes.links l.nodes.owns l.nodes.totals l.next.items l.counter l.node l.visits.items
