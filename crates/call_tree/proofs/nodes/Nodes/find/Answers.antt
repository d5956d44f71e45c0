use Rattle.std.proofs.Common.{◌≡◌, ◌+◌, ◌<◌, ℕ, [], ◌∷◌, ◌++◌, length, nat_eq, false, sym, ap, ◌∙◌, arith, take, drop, get_or}
use Rattle.std.proofs.lemmas.List.{take_more, take-append-drop}
use Rattle.call_tree.specs.PathSums.{begins_with}
use Rattle.call_tree.specs.checked.Nodes.{path_of}
use Rattle.call_tree.proofs.Paths.{path_of_root}
use Rattle.call_tree.proofs.Shape.{no_node, path_at}
use Rattle.call_tree.proofs.nodes.Nodes.find.Goals as goal

pub loop-frame-init : goal.loop-frame-init
loop-frame-init c = (omega arith, path_of_root c.self.inside.links.keys)

pub loop-frame-preserved : goal.loop-frame-preserved
loop-frame-preserved c =
    let keys = c.self.inside.links.keys in
    let path = c.args.path.now in
    let at = c.loop-frame.frame-index in
    let f = get_or path at 0 in
    let known = c.in_ok-index.ensures in
    (omega (arith, known.within), path_at keys _ _ c.self.invariant.shape c.in_ok-index.index c.loop-frame.node (take at path) f known.within known.stands c.loop-frame.invariant.1 ∙ sym (take_more path at 0 (omega arith)))

pub returns-in_err-index : goal.returns-in_err-index
returns-in_err-index c =
    let keys = c.self.inside.links.keys in
    let path = c.args.path.now in
    let at = c.loop-frame.frame-index in
    let f = get_or path at 0 in
    let whole : (take at path ++ f ∷ []) ++ drop (at + 1) path ≡ path = ap (λ front. front ++ drop (at + 1) path) (sym (take_more path at 0 (omega arith))) ∙ take-append-drop (at + 1) path in
    let none : (i : ℕ) → i < length keys + 1 → begins_with nat_eq path (path_of keys i) ≡ false =
    λ i li. ap (λ p. begins_with nat_eq p (path_of keys i)) (sym whole)
    ∙ no_node keys _ _ c.self.invariant.shape c.loop-frame.node (take at path) f (drop (at + 1) path) c.loop-frame.invariant.0 c.loop-frame.invariant.1 c.in_err-index.ensures i li in
    rw (← c.self.view_is, c.from_residual.ensures) none
