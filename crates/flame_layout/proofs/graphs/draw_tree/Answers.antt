use Rattle.std.proofs.Common.{◌≡◌, ◌+◌, ◌<◌, ◌≤◌, ◌∙◌, sym, ap, subst, All, length, List, [], map}
use Rattle.std.proofs.lemmas.Result.{IfOk-weaker}
use Rattle.sample_tables.specs.declared.samples.Sample.{Sample}
use Rattle.call_tree.specs.CallTree.{total_weight}
use Rattle.call_tree.specs.declared.listing.Visit.{Visit}
use Rattle.flame_layout.specs.Boxes.{span_of}
use Rattle.flame_layout.specs.checked.Listed.{listed_boxes}
use Rattle.flame_layout.specs.Graph.{graph_of}
use Rattle.flame_layout.specs.Paths.{SameOwn, tree_samples}
use Rattle.flame_layout.proofs.DrawnBoxes.{drawn_within, drawn_positive}
use Rattle.flame_layout.proofs.GraphBoxes.{listed_graph, listed_few, listed_named, listed_sums, sampled_graph, graph-within, graph-positive, tree_weight}
use Rattle.flame_layout.proofs.graphs.draw_tree.Goals as goal

pub visit_boxes-requires-clause-few : goal.visit_boxes-requires-clause-few
visit_boxes-requires-clause-few c =
    subst (λ (vs : List Visit). All (λ visit. visit.depth ≤ 4096) vs) (sym c.deref.ensures.value)
    (listed_few c.args.table.now c.args.tree.now c.in_ok-visits.visits.items c.in_ok-visits.ensures c.requires.depth)

pub visit_boxes-requires-clause-named : goal.visit_boxes-requires-clause-named
visit_boxes-requires-clause-named c =
    subst (λ (vs : List Visit). All (λ visit. 0 < visit.depth → visit.frame < length c.args.table.now) vs) (sym c.deref.ensures.value)
    (listed_named c.args.table.now c.args.tree.now c.in_ok-visits.visits.items c.in_ok-visits.ensures c.requires.numbers)

pub visit_boxes-requires-clause-sums : goal.visit_boxes-requires-clause-sums
visit_boxes-requires-clause-sums c =
    let is = listed_graph c.args.table.now c.args.tree.now c.in_ok-visits.visits.items c.in_ok-visits.ensures c.in_ok-visits.ensures.distinct c.requires.numbers in
    listed_sums c.args.table.now c.args.tree.now (listed_boxes c.args.table.now 0 c.deref.result.now) (ap (listed_boxes c.args.table.now 0) c.deref.ensures.value ∙ is) c.requires.total

-- the boxes are the graph of the tree's samples
boxes_are : (c : goal.After-drop-visits) → listed_boxes c.args.table.now 0 c.deref.result.now ≡ graph_of (tree_samples c.args.table.now c.args.tree.now)
boxes_are c = ap (listed_boxes c.args.table.now 0) c.deref.ensures.value ∙ listed_graph c.args.table.now c.args.tree.now c.in_ok-visits.visits.items c.in_ok-visits.ensures c.in_ok-visits.ensures.distinct c.requires.numbers

pub returns-clause-graph : goal.returns-clause-graph
returns-clause-graph c =
    IfOk-weaker c.visit_boxes.result (λ boxes. map span_of boxes.items ≡ listed_boxes c.args.table.now 0 c.deref.result.now)
    (λ boxes. (samples : List Sample) → SameOwn samples (tree_samples c.args.table.now c.args.tree.now) → map span_of boxes.items ≡ graph_of samples)
    (λ boxes e samples h. sampled_graph c.args.table.now c.args.tree.now (map span_of boxes.items) samples (e ∙ boxes_are c) h) c.visit_boxes.ensures

pub returns-clause-within : goal.returns-clause-within
returns-clause-within c =
    let samples = tree_samples c.args.table.now c.args.tree.now in
    IfOk-weaker c.visit_boxes.result (λ boxes. map span_of boxes.items ≡ listed_boxes c.args.table.now 0 c.deref.result.now)
    (λ boxes. All (λ drawn. drawn.start + drawn.weight ≤ total_weight c.args.tree.now []) boxes.items)
    (λ boxes e.
    drawn_within boxes.items (graph_of samples) (total_weight c.args.tree.now []) (e ∙ boxes_are c)
    (subst (λ n. All (λ span. span.start + span.weight ≤ n) (graph_of samples)) (tree_weight c.args.table.now c.args.tree.now) (graph-within samples)))
    c.visit_boxes.ensures

pub returns-clause-positive : goal.returns-clause-positive
returns-clause-positive c =
    let samples = tree_samples c.args.table.now c.args.tree.now in
    IfOk-weaker c.visit_boxes.result (λ boxes. map span_of boxes.items ≡ listed_boxes c.args.table.now 0 c.deref.result.now)
    (λ boxes. 0 < length boxes.items → 0 < total_weight c.args.tree.now [])
    (λ boxes e. drawn_positive boxes.items (graph_of samples) (total_weight c.args.tree.now []) (e ∙ boxes_are c)
    (λ w. subst (λ n. 0 < n) (tree_weight c.args.table.now c.args.tree.now) (graph-positive samples w)))
    c.visit_boxes.ensures
