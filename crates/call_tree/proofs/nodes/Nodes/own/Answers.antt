use Rattle.std.proofs.Common.{◌+◌, ◌<◌, length, refl, sym, subst, ◌∙◌, arith}
use Rattle.std.proofs.lemmas.Grind.{get_or_default_zero}
use Rattle.call_tree.specs.checked.Nodes.{NodeLists}
use Rattle.call_tree.proofs.Found.{own_found}
use Rattle.call_tree.proofs.nodes.Nodes.own.Goals as goal

pub returns-clause-weight : goal.returns-clause-weight
returns-clause-weight c =
    let items = c.self.inside.owns.items in
    let within : c.args.node < length c.self.inside.links.keys + 1 = subst (λ (n : NodeLists). c.args.node < length n.links + 1) (sym c.self.view_is) c.requires in
    rw (← c.self.view_is) (c.index.ensures ∙ get_or_default_zero items c.args.node c.index.result.now (omega (arith, c.self.invariant.shape.owns_len, within))
    ∙ own_found _ _ _ c.self.invariant _ c.args.node (within, refl))
