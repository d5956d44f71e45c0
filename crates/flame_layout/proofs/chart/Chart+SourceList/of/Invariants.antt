use Rattle.std.proofs.Common.{◌≡◌, ◌+◌, drop}
use Rattle.merged_stacks.specs.Timeline.{timeline, samples_of, total_weight}
use Rattle.flame_layout.specs.checked.ChartWalks.{IsChartWalk}
use Rattle.flame_layout.proofs.chart.Chart+SourceList.of.Given as goal

abbrev pub invariant-loop-index : goal.invariant-loop-index
invariant-loop-index l = record {
  lists : l.walk.chart.lists ≡ samples_of l.lists;
  start : l.start + total_weight (timeline (samples_of (drop l.index l.lists))) ≡ total_weight (timeline (samples_of l.lists));
  walked : IsChartWalk l.start l.walk (timeline (samples_of (drop l.index l.lists)));
}
