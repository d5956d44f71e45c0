use Rattle.std.proofs.Common.{◌≡◌, ◌-◌, ◌≤◌, map, length, ◌++◌}
use Rattle.std.specs.List.{range_with_len}
use Rattle.merged_stacks.specs.Timeline.{Stack}
use Rattle.flame_layout.specs.checked.Walk.{new_run}
use Rattle.flame_layout.specs.checked.ChartWalks.{named_runs}
use Rattle.flame_layout.proofs.chart_walks.open_ends.Given as goal

abbrev pub invariant-each : goal.invariant-each
invariant-each l = record {
  few : length l.fn.ends.items ≤ length l.ends.items;
  most : length l.ends.items ≤ l.count;
  runs : (stack : Stack) → named_runs stack l.ends.items ≡ named_runs stack l.fn.ends.items ++ map (new_run stack l.end) (range_with_len (length l.fn.ends.items) (length l.ends.items - length l.fn.ends.items));
}

abbrev pub decreases-each : goal.decreases-each
decreases-each l = l.count - length l.ends.items
