use Rattle.std.proofs.Common.{◌≡◌, ◌+◌, ◌<◌, ◌≤◌, ℕ, List, [], ◌∷◌, ◌++◌, length, get_or, sym, ap, subst, ◌∙◌, arith}
use Rattle.std.proofs.lemmas.List.{length-append}
use Rattle.call_tree.specs.declared.links.Link.{Link}
use Rattle.call_tree.proofs.Depths.{IsDepth, root_depth, parent_depth, child_depth}
use Rattle.call_tree.proofs.Steps.{pushed}
use Rattle.call_tree.proofs.listing.depths.Goals as goal

pub loop-index-init : goal.loop-index-init
loop-index-init c =
    let is : c.push.new.self.items ≡ 0 ∷ [] = c.in_ok-push.ensures.items ∙ ap (λ xs. xs ++ 0 ∷ []) c.in_ok-depths.ensures.items in
    record {
      len = ap length is;
      depths_are = subst (λ (xs : List ℕ). (node d : ℕ) → node < length xs → IsDepth c.args.nodes.now.links node (get_or xs node d)) (sym is)
          (pushed (IsDepth c.args.nodes.now.links) [] 0 (λ node d lt. absurd (omega arith)) (root_depth c.args.nodes.now.links));
    }

pub index-requires : goal.index-requires
index-requires c =
    let link : Link = c.link-link.result in
    let before : link.parent ≤ c.loop-index.index =
    subst (λ (x : Link). x.parent ≤ c.loop-index.index) c.link-link.ensures (c.len-len.ensures.tree.shape.after_parent c.loop-index.index link (omega arith)) in
    omega (arith, before, c.loop-index.invariant.len)

pub overflow_add-index : goal.overflow_add-index
overflow_add-index c =
    let above = parent_depth c.args.nodes.now.links _ _ c.len-len.ensures.tree.shape c.loop-index.depths.items c.loop-index.index c.link-link.result (omega arith) c.link-link.ensures
    c.loop-index.invariant.len c.loop-index.invariant.depths_are c.index.result.now c.index.ensures in
    omega (arith, above.0.1, above.1)

pub loop-index-preserved : goal.loop-index-preserved
loop-index-preserved c =
    let keys : List Link = c.args.nodes.now.links in
    let at : ℕ = c.loop-index.index in
    let depths : List ℕ = c.loop-index.depths.items in
    let depth : ℕ = c.index.result.now + 1 in
    let above = parent_depth keys _ _ c.len-len.ensures.tree.shape depths at c.link-link.result (omega arith) c.link-link.ensures c.loop-index.invariant.len c.loop-index.invariant.depths_are c.index.result.now c.index.ensures in
    let here = child_depth keys _ _ c.len-len.ensures.tree.shape at c.link-link.result (omega arith) c.link-link.ensures c.index.result.now above.0 in
    let grown : c.push-in-loop-index.new.self.items ≡ depths ++ depth ∷ [] = c.in_ok-push-2.ensures.items in
    record {
      len = omega (arith, ap length grown, length-append depths (depth ∷ []), c.loop-index.invariant.len);
      depths_are = subst (λ (xs : List ℕ). (node d : ℕ) → node < length xs → IsDepth keys node (get_or xs node d)) (sym grown)
          (pushed (IsDepth keys) depths depth c.loop-index.invariant.depths_are (subst (λ n. IsDepth keys n depth) (sym c.loop-index.invariant.len) here));
    }

pub returns : goal.returns
returns c = record {
  len = omega (arith, c.loop-index.invariant.len);
  depths_are = λ node lt. (c.loop-index.invariant.depths_are node 0 lt).0;
}
