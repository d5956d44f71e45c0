use Rattle.std.proofs.Common.{◌≡◌, ◌+◌, ℕ, List, length, get_or, set, sym, subst, ◌∙◌, arith}
use Rattle.std.proofs.lemmas.Grind.{get_or_default_zero}
use Rattle.call_tree.specs.declared.links.Link.{Link}
use Rattle.call_tree.specs.checked.NodeOrder.{Row, AreRows}
use Rattle.call_tree.proofs.Threaded.{IsThreaded, no_row, root_threaded, within, row_threaded, all_threaded}
use Rattle.call_tree.proofs.listing.next_nodes.Goals as goal

pub loop-parent-init : goal.loop-parent-init
loop-parent-init c =
    root_threaded c.args.table.now c.args.nodes.now.links c.deref-parent-items.result.now c.in_ok-next.next.items
    (omega (arith, c.len.ensures.tree.shape.totals_len, c.in_ok-next.ensures.len))

pub index-requires : goal.index-requires
index-requires c =
    let names : List (List ℕ) = c.args.table.now in
    let keys : List Link = c.args.nodes.now.links in
    let rows = subst (AreRows names keys) (sym c.deref-parent-items.ensures.value) c.in_ok-rows.ensures in
    let inside = within names keys _ _ c.len.ensures.tree.shape c.requires.distinct c.requires.frames
    c.deref-parent-items.result.now rows c.loop-parent.parent-index c.loop-parent-test.true c.loop-parent.next.items c.loop-parent.invariant in
    omega (arith, inside.0)

pub index_mut-requires : goal.index_mut-requires
index_mut-requires c =
    let names : List (List ℕ) = c.args.table.now in
    let keys : List Link = c.args.nodes.now.links in
    let rows = subst (AreRows names keys) (sym c.deref-parent-items.ensures.value) c.in_ok-rows.ensures in
    let inside = within names keys _ _ c.len.ensures.tree.shape c.requires.distinct c.requires.frames
    c.deref-parent-items.result.now rows c.loop-parent.parent-index c.loop-parent-test.true c.loop-parent.next.items c.loop-parent.invariant in
    omega (arith, inside.1)

pub index_mut-requires-in-loop-parent : goal.index_mut-requires-in-loop-parent
index_mut-requires-in-loop-parent c =
    let names : List (List ℕ) = c.args.table.now in
    let keys : List Link = c.args.nodes.now.links in
    let rows = subst (AreRows names keys) (sym c.deref-parent-items.ensures.value) c.in_ok-rows.ensures in
    let inside = within names keys _ _ c.len.ensures.tree.shape c.requires.distinct c.requires.frames
    c.deref-parent-items.result.now rows c.loop-parent.parent-index c.loop-parent-test.true c.loop-parent.next.items c.loop-parent.invariant in
    omega (arith, inside.0)

pub loop-parent-preserved : goal.loop-parent-preserved
loop-parent-preserved c =
    let names : List (List ℕ) = c.args.table.now in
    let keys : List Link = c.args.nodes.now.links in
    let rows = subst (AreRows names keys) (sym c.deref-parent-items.ensures.value) c.in_ok-rows.ensures in
    let at : ℕ = c.loop-parent.parent-index in
    let next : List ℕ = c.loop-parent.next.items in
    let row : Row = get_or c.deref-parent-items.result.now at no_row in
    let inside = within names keys _ _ c.len.ensures.tree.shape c.requires.distinct c.requires.frames
    c.deref-parent-items.result.now rows at c.loop-parent-test.true next c.loop-parent.invariant in
    let read : c.index.result.now ≡ get_or next row.0 0 = c.index.ensures ∙ get_or_default_zero next row.0 c.index.result.now inside.0 in
    subst (λ n. IsThreaded names keys c.deref-parent-items.result.now (at + 1) (set (set next row.2 n) row.0 row.2)) (sym read)
    (row_threaded names keys _ _ c.len.ensures.tree.shape c.requires.distinct c.requires.frames
    c.deref-parent-items.result.now rows at c.loop-parent-test.true next c.loop-parent.invariant)

pub returns : goal.returns
returns c =
    let names : List (List ℕ) = c.args.table.now in
    let keys : List Link = c.args.nodes.now.links in
    let rows = subst (AreRows names keys) (sym c.deref-parent-items.ensures.value) c.in_ok-rows.ensures in
    let all : c.loop-parent.parent-index ≡ length c.deref-parent-items.result.now = omega arith in
    all_threaded names keys _ _ c.len.ensures.tree.shape c.requires.distinct c.requires.frames
    c.deref-parent-items.result.now rows c.loop-parent.next.items
    (subst (λ k. IsThreaded names keys c.deref-parent-items.result.now k c.loop-parent.next.items) all c.loop-parent.invariant)
