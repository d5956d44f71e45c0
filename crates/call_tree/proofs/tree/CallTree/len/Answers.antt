use Rattle.std.proofs.Common.{subst}
use Rattle.call_tree.specs.CallTree.{Tree, IsNodeCount}
use Rattle.call_tree.proofs.tree.CallTree.len.Goals as goal

pub returns : goal.returns
returns c = subst (λ (tree : Tree). IsNodeCount tree c.len.result) c.self.view_is c.len.ensures.count
