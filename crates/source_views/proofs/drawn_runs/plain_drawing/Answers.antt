use Rattle.std.proofs.Common.{ap, map, option_map, ◌∙◌}
use Rattle.flame_layout.specs.Boxes.{span_of}
use Rattle.page_texts.specs.Drawn.{moment_of}
use Rattle.source_views.proofs.PageDrawings.{drawn_boxes, with_boxes}
use Rattle.source_views.proofs.drawn_runs.plain_drawing.Goals as goal

pub returns : goal.returns
returns c =
    c.drawing.ensures
    ∙ with_boxes c.args.heading.now.least (option_map moment_of c.args.moment) c.args.graph.now.total _ (map span_of c.args.graph.now.boxes.items) (drawn_boxes c.as_slice.result.now ∙ ap (λ boxes. map (λ span. record { span = span; other = 0 }) (map span_of boxes)) c.as_slice.ensures.value)
