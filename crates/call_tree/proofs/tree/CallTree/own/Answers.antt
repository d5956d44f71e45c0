use Rattle.std.proofs.Common.{sym, ap, ◌∙◌}
use Rattle.call_tree.specs.CallTree.{own_weight}
use Rattle.call_tree.specs.checked.Nodes.{weights_of}
use Rattle.call_tree.proofs.Found.{own_none}
use Rattle.call_tree.proofs.tree.CallTree.own.Goals as goal

pub returns-in-Some : goal.returns-in-Some
returns-in-Some c =
    c.own.ensures.weight ∙ ap (own_weight (weights_of c.self.inside.nodes)) c.in-Some.ensures.1 ∙ ap (λ t. own_weight t c.args.path.now) c.self.view_is

pub returns-in-None : goal.returns-in-None
returns-in-None c = sym (own_none _ _ c.args.path.now c.in-None.ensures) ∙ ap (λ t. own_weight t c.args.path.now) c.self.view_is
