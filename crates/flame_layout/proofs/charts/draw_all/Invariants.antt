use Rattle.std.proofs.Common.{◌≡◌, ◌+◌, ◌∷◌, [], drop}
use Rattle.merged_stacks.specs.Timeline.{total_weight}
use Rattle.flame_layout.specs.checked.ChartWalks.{IsChartWalk}
use Rattle.flame_layout.proofs.charts.draw_all.Given as goal

abbrev pub invariant-loop-at : goal.invariant-loop-at
invariant-loop-at g l =
    let samples = g.S.StackRows.samples l.list in
    record {
      lists : l.walk.chart.lists ≡ samples ∷ [];
      start : l.start + total_weight (drop l.at samples) ≡ l.total;
      walked : IsChartWalk l.start l.walk (drop l.at samples);
    }
