use Rattle.std.proofs.Common.{◌+◌, ◌≤◌, All, subst, sym}
use Rattle.flame_layout.proofs.DrawnBoxes.{plain_within}
use Rattle.write_tests.proofs.tests.of_view_texts.joined.append_chart.Goals as goal

pub drawn_line-requires-clause-within : goal.drawn_line-requires-clause-within
drawn_line-requires-clause-within c =
    plain_within c.in_ok-chart.chart c.total_weight.result (subst (λ n. All (λ span. span.start + span.weight ≤ n) c.in_ok-chart.chart) (sym c.total_weight.ensures) c.in_ok-chart.ensures.within)
