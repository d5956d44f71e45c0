use Rattle.call_tree.proofs.TreeSums.{total_weight-tree_of, own_weight-tree_of}
use Rattle.call_tree.proofs.laws.weights_are_sums.Goals as goal

pub returns : goal.returns
returns c = record { total = total_weight-tree_of; own = own_weight-tree_of }
