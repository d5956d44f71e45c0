use Rattle.std.proofs.Common.{◌≡◌, ◌≤◌, length, take, drop, reverse, ◌++◌}
use Rattle.flame_layout.specs.checked.Walk.{boxes_of_runs}
use Rattle.flame_layout.specs.checked.ChartRuns.{stack_at}
use Rattle.flame_layout.specs.checked.ChartWalks.{named_runs}
use Rattle.flame_layout.proofs.chart_walks.close_ends.Given as goal

abbrev pub invariant-each : goal.invariant-each
invariant-each g l =
    let runs = named_runs (stack_at l.fn.chart.lists l.front) l.fn.ends.items in
    record {
      few : length l.ends.items ≤ length l.fn.ends.items;
      kept : l.keep ≤ length l.ends.items;
      ends : l.ends.items ≡ take (length l.ends.items) l.fn.ends.items;
      lists : l.chart.lists ≡ l.fn.chart.lists;
      boxes : l.chart.spans ≡ l.fn.chart.spans ++ reverse (drop (length l.ends.items) (boxes_of_runs l.front.start runs));
    }

abbrev pub decreases-each : goal.decreases-each
decreases-each g l = length l.ends.items
