use Rattle.std.proofs.Common.{◌∙◌, ℕ, List, ap, rules, subst, sym}
use Rattle.flame_layout.proofs.DrawnBoxes.{plain_positive, plain_within}
use Rattle.merged_stacks.specs.Timeline.{samples_of}
use Rattle.merging.specs.Sums.{all_samples}
use Rattle.source_views.specs.Failures.{Sends}
use Rattle.source_views.proofs.TextLemmas.{graph_positive, graph_within}
use Rattle.svg_texts.specs.Drawn.{picture_of}
use Rattle.svg_texts.specs.Svg.{plain_svg}
use Rattle.svg_texts.proofs.OwnWeights.{graph-own, own_plain}
use Rattle.flame_tool.proofs.sent_pictures.send_graph.Goals as goal

pub of-requires-clause-within : goal.of-requires-clause-within
of-requires-clause-within g c =
    let samples = all_samples (samples_of c.args.sources.lists) in
    plain_within c.in_ok-chart.chart c.args.picture.now.total (graph_within samples c.in_ok-chart.chart c.args.picture.now.total (c.in_ok-chart.ensures.graph samples c.in_ok-merged.ensures) c.requires)

pub of-requires-clause-positive : goal.of-requires-clause-positive
of-requires-clause-positive g c =
    let samples = all_samples (samples_of c.args.sources.lists) in
    plain_positive c.in_ok-chart.chart c.args.picture.now.total (graph_positive samples c.in_ok-chart.chart c.args.picture.now.total (c.in_ok-chart.ensures.graph samples c.in_ok-merged.ensures) c.requires)

pub of-requires-clause-own : goal.of-requires-clause-own
of-requires-clause-own g c =
    let samples = all_samples (samples_of c.args.sources.lists) in
    own_plain c.in_ok-chart.chart _ c.args.picture.now.total (c.in_ok-chart.ensures.graph samples c.in_ok-merged.ensures) (graph-own samples ∙ sym c.requires) (search rules)

pub returns-clause-sent : goal.returns-clause-sent
returns-clause-sent g c =
    let samples = all_samples (samples_of c.args.sources.lists) in
    subst (λ (text : List ℕ). Sends text (g.W.Outlet.contents c.args.out.now) (g.W.Outlet.contents c.send_long_text.new.out) c.send_long_text.result)
    (c.in_ok-svg.ensures.text ∙ ap (plain_svg (picture_of c.args.picture.now)) (c.in_ok-chart.ensures.graph samples c.in_ok-merged.ensures)) c.send_long_text.ensures.sent
