use Rattle.std.proofs.Common.{◌≡◌, ◌+◌, ◌++◌, drop, List}
use Rattle.sample_tables.specs.declared.samples.Sample.{Sample}
use Rattle.stack_core.specs.Interleaving.{list_of}
use Rattle.merged_stacks.specs.Timeline.{drawn, total_weight}
use Rattle.flame_layout.specs.checked.ChartWalks.{IsChartWalk}
use Rattle.flame_layout.proofs.chart_walks.enter_samples.Given as goal

abbrev pub invariant-loop-at : goal.invariant-loop-at
invariant-loop-at g l =
    let taken = list_of l.fn.walk.chart.lists l.list in
    record {
      lists : l.walk.chart.lists ≡ l.fn.walk.chart.lists;
      start : l.start + total_weight (drop l.at taken) ≡ l.end;
      walked : (samples : List Sample) → IsChartWalk l.end l.fn.walk samples → IsChartWalk l.start l.walk (drawn (drop l.at taken) ++ samples);
    }
