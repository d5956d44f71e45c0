use Rattle.std.proofs.Common.{◌∙◌, ap, arith, length, reverse}
use Rattle.flame_layout.specs.checked.ChartRuns.{RunsState, stack_at}
use Rattle.flame_layout.proofs.ChartFronts.{chart-ends, chart-ends-none, front-runs}
use Rattle.flame_layout.proofs.NamedRuns.{named_runs-length}
use Rattle.flame_layout.proofs.chart_walks.end.Goals.{in-Some+in_ok-close_ends, in_default}
use Rattle.flame_layout.proofs.chart_walks.end.Goals as goal

pub close_ends-requires-clause-few : goal.close_ends-requires-clause-few
close_ends-requires-clause-few g c =
    let walk = c.args.walk in
    omega (arith, c.requires.1.walked.few, ap length (front-runs walk c.in-Some.front c.in-Some.is), named_runs-length (stack_at walk.chart.lists c.in-Some.front) walk.ends.items)

pub returns : goal.returns
returns g c samples walked =
    elim c.match-front.branch [
      | in-Some+in_ok-close_ends w ↦ ap (λ (s : RunsState). reverse s.spans) w.chart-is ∙ chart-ends c.args.walk w.in-Some.front w.close_ends.new.chart.spans samples w.in-Some.is walked (ap (λ (s : RunsState). s.spans) w.in_ok-close_ends.ensures.chart)
      | in_default w ↦ ap (λ (s : RunsState). reverse s.spans) w.chart-is ∙ chart-ends-none c.args.walk samples w.in_default.is walked
    ]
