use Rattle.std.proofs.Common.{◌≡◌, ◌+◌, ◌<◌, ℕ, List, [], ◌∷◌, ◌++◌, length, get_or, refl, sym, ap, subst, ◌∙◌, arith}
use Rattle.std.proofs.lemmas.List.{length-append, get_or_default}
use Rattle.call_tree.specs.declared.links.Link.{Link}
use Rattle.call_tree.specs.checked.NodeOrder.{Row, IsRowOf}
use Rattle.call_tree.proofs.RowOrder.{sorted_are}
use Rattle.call_tree.proofs.Steps.{pushed}
use Rattle.call_tree.proofs.listing.sorted_rows.Goals as goal

pub loop-index-init : goal.loop-index-init
loop-index-init c = record {
  len = ap length c.in_ok-rows.ensures.items;
  rows_are = λ i d lt. absurd (omega (arith, ap length c.in_ok-rows.ensures.items));
}

pub loop-index-preserved : goal.loop-index-preserved
loop-index-preserved c =
    let names : List (List ℕ) = c.args.table.now in
    let keys : List Link = c.args.nodes.now.links in
    let at : ℕ = c.loop-index.index in
    let rows : List Row = c.loop-index.rows.items in
    let link : Link = c.link-link.result in
    let row : Row = (link.parent, record { 0 = c.name.result }, at + 1) in
    let stands = λ (d : Link). get_or_default keys at d link (omega arith) ∙ c.link-link.ensures in
    let here : IsRowOf names keys at row = record {
      parent = λ d. ap (λ (x : Link). x.parent) (sym (stands d));
      name = λ d. c.name.ensures ∙ ap (λ (x : Link). get_or names x.frame []) (sym (stands d));
      number = refl;
    } in
    let grown : c.push.new.self.items ≡ rows ++ row ∷ [] = c.in_ok-push.ensures.items in
    record {
      len = omega (arith, ap length grown, length-append rows (row ∷ []), c.loop-index.invariant.len);
      rows_are = subst (λ (xs : List Row). (i : ℕ) (d : Row) → i < length xs → IsRowOf names keys i (get_or xs i d)) (sym grown)
          (pushed (IsRowOf names keys) rows row c.loop-index.invariant.rows_are (subst (λ n. IsRowOf names keys n row) (sym c.loop-index.invariant.len) here));
    }

pub returns : goal.returns
returns c = sorted_are c.args.table.now c.args.nodes.now.links _ _ c.len-links.ensures.tree.shape c.requires.distinct c.requires.frames c.loop-index.rows.items c.sort_unstable.new.self.items
    (omega (arith, c.loop-index.invariant.len)) c.loop-index.invariant.rows_are c.sort_unstable.ensures.permutation c.sort_unstable.ensures.sorted
