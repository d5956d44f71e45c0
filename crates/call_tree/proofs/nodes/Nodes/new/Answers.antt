use Rattle.call_tree.proofs.Found.{IsTree-root, tree_of-root}
use Rattle.call_tree.proofs.nodes.Nodes.new.Goals as goal

pub invariant_of-result : goal.invariant_of-result
invariant_of-result c = rw (c.new.ensures, c.in_ok-vec.ensures.items, c.in_ok-vec-2.ensures.items) IsTree-root

pub returns : goal.returns
returns c = rw (c.new.ensures, c.in_ok-vec.ensures.items) tree_of-root
