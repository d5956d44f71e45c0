use Rattle.std.proofs.Common.{◌≡◌, ◌<◌, ℕ, List, [], ◌∷◌, ◌++◌, length, get_or, sym, ap, ◌∙◌, arith}
use Rattle.std.proofs.lemmas.Grind.{get_or_default_zero}
use Rattle.call_tree.proofs.Listed.{listed, listed_nothing, link_frames, none_visited, visited_within, one_visited}
use Rattle.call_tree.proofs.listing.listing.Goals as goal

pub returns-then-total-eq0 : goal.returns-then-total-eq0
returns-then-total-eq0 c =
    let none : get_or c.args.nodes.now.totals 0 0 ≡ 0 = sym c.total.ensures.stored ∙ c.if-total-eq0.true in
    rw c.new.ensures.items (listed_nothing c.args.table.now _ _ _ c.requires.distinct c.len-len.ensures.tree none)

pub next_nodes-requires-clause-frames : goal.next_nodes-requires-clause-frames
next_nodes-requires-clause-frames c = link_frames c.args.table.now _ _ _ c.len-len.ensures.tree c.requires.numbers

pub loop-init : goal.loop-init
loop-init c = none_visited c.args.table.now _ _ _ c.len-len.ensures.tree c.in_ok-next.next.items c.in_ok-next.ensures c.in_ok-visits.visits.items c.in_ok-visits.ensures.items

pub index-requires : goal.index-requires
index-requires c =
    let inside = visited_within c.args.table.now _ _ _ c.len-len.ensures.tree c.in_ok-next.next.items c.loop.counter c.loop.node c.loop.visits.items c.loop.invariant (omega arith) in
    omega (arith, inside, c.in_ok-depths.ensures.len)

pub visit_node-requires : goal.visit_node-requires
visit_node-requires c =
    visited_within c.args.table.now _ _ _ c.len-len.ensures.tree c.in_ok-next.next.items c.loop.counter c.loop.node c.loop.visits.items c.loop.invariant (omega arith)

pub index-node-requires : goal.index-node-requires
index-node-requires c =
    let inside = visited_within c.args.table.now _ _ _ c.len-len.ensures.tree c.in_ok-next.next.items c.loop.counter c.loop.node c.loop.visits.items c.loop.invariant (omega arith) in
    omega (arith, inside, c.in_ok-next.ensures.len)

pub loop-preserved : goal.loop-preserved
loop-preserved c =
    let node : ℕ = c.loop.node in
    let next : List ℕ = c.in_ok-next.next.items in
    let inside = visited_within c.args.table.now _ _ _ c.len-len.ensures.tree next c.loop.counter node c.loop.visits.items c.loop.invariant (omega arith) in
    let known : node < length c.in_ok-depths.depths.items = omega (arith, inside, c.in_ok-depths.ensures.len) in
    let depth = c.index.ensures ∙ get_or_default_zero c.in_ok-depths.depths.items node c.index.result.now known ∙ c.in_ok-depths.ensures.depths_are node known in
    let after = c.index-node.ensures ∙ get_or_default_zero next node c.index-node.result.now (omega (arith, inside, c.in_ok-next.ensures.len)) in
    one_visited c.args.table.now _ _ _ c.len-len.ensures.tree next c.loop.counter node c.loop.visits.items c.loop.invariant (omega arith) c.index.result.now c.index-node.result.now depth after
    c.push.new.self.items (c.in_ok-push.ensures.items ∙ ap (λ visit. c.loop.visits.items ++ visit ∷ []) c.visit_node.ensures)

pub returns : goal.returns
returns c =
    let root : get_or c.args.nodes.now.totals 0 0 ≡ 0 → ⊥ =
    λ e. c.if-total-eq0.false (c.total.ensures.stored ∙ e) in
    listed c.args.table.now _ _ _ c.len-len.ensures.tree c.in_ok-next.next.items c.loop.counter c.loop.node c.loop.visits.items c.loop.invariant c.requires.distinct (omega arith) root
