use Rattle.std.proofs.Common.{◌∙◌, ℕ, List, ap, rules, subst, sym}
use Rattle.flame_layout.proofs.DrawnBoxes.{plain_positive, plain_within}
use Rattle.merged_stacks.specs.Timeline.{samples_of, timeline}
use Rattle.merging.proofs.GatherLemmas.{timeline_weight}
use Rattle.source_views.proofs.TextLemmas.{chart_positive, chart_within}
use Rattle.source_views.specs.Failures.{Sends}
use Rattle.svg_texts.specs.Drawn.{picture_of}
use Rattle.svg_texts.specs.Svg.{plain_svg}
use Rattle.svg_texts.proofs.OwnWeights.{chart-own, own_plain}
use Rattle.flame_tool.proofs.sent_pictures.send_chart.Goals as goal

pub of-requires-clause-within : goal.of-requires-clause-within
of-requires-clause-within g c =
    let lists = samples_of c.args.sources.now.lists in
    plain_within c.in_ok-chart.chart c.args.picture.now.total (chart_within lists c.in_ok-chart.chart c.args.picture.now.total c.in_ok-chart.ensures (c.requires ∙ timeline_weight lists))

pub of-requires-clause-positive : goal.of-requires-clause-positive
of-requires-clause-positive g c =
    let lists = samples_of c.args.sources.now.lists in
    plain_positive c.in_ok-chart.chart c.args.picture.now.total (chart_positive lists c.in_ok-chart.chart c.args.picture.now.total c.in_ok-chart.ensures (c.requires ∙ timeline_weight lists))

pub of-requires-clause-own : goal.of-requires-clause-own
of-requires-clause-own g c =
    own_plain c.in_ok-chart.chart _ c.args.picture.now.total c.in_ok-chart.ensures (chart-own (timeline (samples_of c.args.sources.now.lists)) ∙ sym c.requires) (search rules)

pub returns-clause-sent : goal.returns-clause-sent
returns-clause-sent g c =
    subst (λ (text : List ℕ). Sends text (g.W.Outlet.contents c.args.out.now) (g.W.Outlet.contents c.send_long_text.new.out) c.send_long_text.result)
    (c.in_ok-svg.ensures.text ∙ ap (plain_svg (picture_of c.args.picture.now)) c.in_ok-chart.ensures) c.send_long_text.ensures.sent
