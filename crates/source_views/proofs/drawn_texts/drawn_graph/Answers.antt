use Rattle.std.proofs.Common.{codes, refl, ◌∙◌}
use Rattle.view_texts.specs.Json.{boxes_line}
use Rattle.flame_layout.proofs.DrawnBoxes.{plain_positive, plain_within}
use Rattle.source_views.proofs.TextLemmas.{graph_within, graph_positive}
use Rattle.source_views.proofs.drawn_texts.drawn_graph.Goals as goal

pub drawn_line-requires-clause-within : goal.drawn_line-requires-clause-within
drawn_line-requires-clause-within c =
    plain_within c.args.chart.now c.args.total (graph_within c.requires.0 c.args.chart.now c.args.total c.requires.1 c.requires.2)

pub drawn_line-requires-clause-positive : goal.drawn_line-requires-clause-positive
drawn_line-requires-clause-positive c =
    plain_positive c.args.chart.now c.args.total (graph_positive c.requires.0 c.args.chart.now c.args.total c.requires.1 c.requires.2)

pub returns-clause-text : goal.returns-clause-text
returns-clause-text c samples boxes total =
    c.drawn_line.ensures.text c.args.chart.now refl ∙ (λ i. boxes_line (codes "graph") (total i) c.args.width (boxes i))
