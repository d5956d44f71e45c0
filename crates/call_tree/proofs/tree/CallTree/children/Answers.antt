use Rattle.std.proofs.Common.{IfOk, subst}
use Rattle.call_tree.specs.CallTree.{IsChildren}
use Rattle.call_tree.specs.checked.Nodes.{weights_of}
use Rattle.call_tree.proofs.Found.{no_children}
use Rattle.call_tree.proofs.tree.CallTree.children.Goals as goal

pub returns-in-Some : goal.returns-in-Some
returns-in-Some c =
    rw (← c.self.view_is) (subst (λ path. IfOk c.children.result (λ v. IsChildren (weights_of c.self.inside.nodes) path v.items)) c.in-Some.ensures.1 c.children.ensures)

pub returns-in-None : goal.returns-in-None
returns-in-None c = rw (← c.self.view_is, c.new.ensures.items) (no_children _ _ c.args.path.now c.in-None.ensures)
