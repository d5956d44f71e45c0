use Rattle.std.proofs.Common.{ap, sym, ◌∙◌}
use Rattle.std.proofs.lemmas.Result.{on_ok_weaker}
use Rattle.call_tree.specs.CallTree.{Tree, with_weight}
use Rattle.call_tree.specs.checked.Nodes.{weights_of}
use Rattle.call_tree.proofs.tree.CallTree.add.Goals as goal

pub returns-then-weight-eq0-clause-ok : goal.returns-then-weight-eq0-clause-ok
unfolding with_weight
returns-then-weight-eq0-clause-ok c = ap (with_weight c.args.self.now c.args.ids.now) (sym c.if-weight-eq0.true)

pub returns-clause-ok : goal.returns-clause-ok
returns-clause-ok c =
    on_ok_weaker c.add.result
    (λ added. added ∙ ap (with_weight (weights_of c.self.inside.nodes) c.args.ids.now) c.from.ensures ∙ ap (λ (t : Tree). with_weight t c.args.ids.now c.args.weight) c.self.view_is)
    c.add.ensures.ok
