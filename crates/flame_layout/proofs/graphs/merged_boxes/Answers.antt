use Rattle.std.proofs.Common.{◌≡◌, ◌∙◌, ◌+◌, ◌≤◌, List, All, IfOk, length, ap, sym, subst, arith}
use Rattle.std.proofs.lemmas.Result.{IfOk-weaker}
use Rattle.merged_stacks.specs.Timeline.{total_weight}
use Rattle.merged_stacks.specs.RankedStacks.{ranked_samples}
use Rattle.flame_layout.specs.declared.boxes.SpanBox.{SpanBox}
use Rattle.flame_layout.proofs.DrawnBoxes.{plain_spans}
use Rattle.flame_layout.proofs.graphs.merged_boxes.Goals as goal

-- the boxes are those of the chart
copied : (c : goal.After-drop-chart-inside-3) → IfOk c.span_boxes.result (λ boxes. boxes.items ≡ c.in_ok-chart.chart)
copied c = IfOk-weaker c.span_boxes.result _ _ (λ boxes e. e ∙ plain_spans c.in_ok-chart.chart) c.span_boxes.ensures

pub returns-clause-graph : goal.returns-clause-graph
returns-clause-graph c = IfOk-weaker c.span_boxes.result _ _ (λ boxes e samples same. e ∙ c.in_ok-chart.ensures.graph samples same) (copied c)

pub returns-clause-within : goal.returns-clause-within
returns-clause-within c =
    IfOk-weaker c.span_boxes.result _ _ (λ boxes e. subst (λ (all : List SpanBox). All (λ span. span.start + span.weight ≤ total_weight (ranked_samples c.args.merged.now)) all) (sym e) c.in_ok-chart.ensures.within) (copied c)

pub returns-clause-positive : goal.returns-clause-positive
returns-clause-positive c = IfOk-weaker c.span_boxes.result _ _ (λ boxes e some. c.in_ok-chart.ensures.positive (omega (arith, some, ap length e))) (copied c)
