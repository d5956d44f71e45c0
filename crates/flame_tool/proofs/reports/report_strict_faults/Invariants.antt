-- What is wrong with the sources so far was told.
use Rattle.std.proofs.Common.{◌≡◌, ◌≤◌, ◌-◌, false, length, map, take, string_bytes}
use Rattle.source_views.specs.Messages.{Tells, message_of_strict_fault, said_of_each}
use Rattle.flame_tool.proofs.reports.report_strict_faults.Given as goal

abbrev pub invariant-loop-source : goal.invariant-loop-source
invariant-loop-source g l = record {
  within : l.source ≤ length l.faults;
  told : l.fn.advice.is_wanted ≡ false → Tells (said_of_each (message_of_strict_fault (map string_bytes l.files)) 0 (take l.source l.faults)) (g.E.Outlet.contents l.fn.err) (g.E.Outlet.contents l.err)
      (g.E.Outlet.failures l.fn.err) (g.E.Outlet.failures l.err);
}

abbrev pub decreases-loop-source : goal.decreases-loop-source
decreases-loop-source g l = length l.faults - l.source
