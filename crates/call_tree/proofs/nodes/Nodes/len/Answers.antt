use Rattle.call_tree.proofs.Found.{node_count}
use Rattle.call_tree.proofs.nodes.Nodes.len.Goals as goal

pub returns-clause-count : goal.returns-clause-count
returns-clause-count c = rw (← c.self.view_is, c.as_slice.ensures) (node_count _ _ _ c.self.invariant)
