use Rattle.call_tree.proofs.TreeSums.{tree_of_same}
use Rattle.call_tree.proofs.laws.trees_are_their_sums.Goals as goal

pub returns : goal.returns
returns c = tree_of_same
