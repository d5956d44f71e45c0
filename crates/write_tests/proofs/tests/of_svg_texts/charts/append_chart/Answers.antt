use Rattle.std.proofs.Common.{◌+◌, ◌≤◌, All, subst, sym}
use Rattle.merged_stacks.specs.Timeline.{samples_of, timeline}
use Rattle.flame_layout.proofs.DrawnBoxes.{plain_within}
use Rattle.svg_texts.proofs.OwnWeights.{chart-own, own_plain}
use Rattle.write_tests.proofs.tests.of_svg_texts.charts.append_chart.Goals as goal

pub of-requires-2-clause-within : goal.of-requires-2-clause-within
of-requires-2-clause-within c =
    plain_within c.in_ok-chart.chart c.total_weight.result (subst (λ n. All (λ span. span.start + span.weight ≤ n) c.in_ok-chart.chart) (sym c.total_weight.ensures) c.in_ok-chart.ensures.within)

pub of-requires-2-clause-own : goal.of-requires-2-clause-own
of-requires-2-clause-own c = own_plain c.in_ok-chart.chart _ _ c.in_ok-chart.ensures.chart (chart-own (timeline (samples_of c.args.lists.now))) c.requires
