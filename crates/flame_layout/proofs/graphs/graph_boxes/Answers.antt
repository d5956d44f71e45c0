use Rattle.std.proofs.Common.{◌≡◌, ◌∙◌, ap, [], map, IfOk}
use Rattle.std.proofs.lemmas.Result.{IfOk-weaker}
use Rattle.flame_layout.specs.Boxes.{span_of}
use Rattle.call_tree.specs.CallTree.{total_weight}
use Rattle.flame_layout.proofs.DrawnBoxes.{drawn_spans, spans_within, spans_positive}
use Rattle.flame_layout.proofs.graphs.graph_boxes.Goals as goal

-- the boxes are those that the drawn ones stand for
copied : (c : goal.After-drop-drawn) → IfOk c.span_boxes.result (λ boxes. boxes.items ≡ map span_of c.in_ok-drawn.drawn.items)
copied c = IfOk-weaker c.span_boxes.result _ _ (λ boxes e. e ∙ (drawn_spans c.as_slice.result.now ∙ ap (map span_of) c.as_slice.ensures.value)) c.span_boxes.ensures

pub returns-clause-graph : goal.returns-clause-graph
returns-clause-graph c = IfOk-weaker c.span_boxes.result _ _ (λ boxes e samples same. e ∙ c.in_ok-drawn.ensures.graph samples same) (copied c)

pub returns-clause-within : goal.returns-clause-within
returns-clause-within c =
    IfOk-weaker c.span_boxes.result _ _ (λ boxes e. spans_within c.in_ok-drawn.drawn.items boxes.items (total_weight c.args.tree.now []) e c.in_ok-drawn.ensures.within) (copied c)

pub returns-clause-positive : goal.returns-clause-positive
returns-clause-positive c =
    IfOk-weaker c.span_boxes.result _ _ (λ boxes e. spans_positive c.in_ok-drawn.drawn.items boxes.items (total_weight c.args.tree.now []) e c.in_ok-drawn.ensures.positive) (copied c)
