use Rattle.std.proofs.Common.{◌+◌, ◌<◌, IsPermutation, length, refl, sym, ap, subst, ◌∙◌}
use Rattle.call_tree.specs.checked.Nodes.{NodeLists, frames_below}
use Rattle.call_tree.proofs.Found.{children_found}
use Rattle.call_tree.proofs.Frames.{sorted_rises, members_sorted}
use Rattle.call_tree.proofs.nodes.Nodes.children.Goals as goal

pub returns : goal.returns
returns c =
    let links = c.self.inside.links.keys in
    let node = c.args.node in
    let sorted = c.sort.new.self.items in
    let within : node < length links + 1 = subst (λ (n : NodeLists). node < length n.links + 1) (sym c.self.view_is) c.requires in
    let same = subst (λ xs. IsPermutation xs sorted) (c.in_ok-frames.ensures ∙ ap (frames_below node) c.as_slice.ensures) c.sort.ensures.permutation in
    rw (← c.self.view_is) (children_found _ _ _ c.self.invariant node _ sorted (within, refl)
    (sorted_rises _ _ _ c.self.invariant.shape node sorted same c.in_ok-sort.ensures.sorted) (members_sorted node links sorted same))
