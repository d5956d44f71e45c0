use Rattle.call_tree.proofs.Numbers.{HasNumbersOf-empty}
use Rattle.tree_tests.proofs.tests.listings.listed.Goals as goal

pub add_known-requires : goal.add_known-requires
add_known-requires g c = rw c.in_ok-tree.ensures (HasNumbersOf-empty _)
