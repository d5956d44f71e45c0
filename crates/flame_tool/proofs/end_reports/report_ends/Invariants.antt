-- What there is to say of the sources so far was told.
use Rattle.std.proofs.Common.{◌≤◌, ◌-◌, length, take}
use Rattle.std.specs.List.{zip}
use Rattle.source_views.specs.Messages.{Tells}
use Rattle.flame_tool.specs.checked.LiveSaying.{said_of_ends}
use Rattle.flame_tool.proofs.end_reports.report_ends.Given as goal

abbrev pub invariant-loop-source : goal.invariant-loop-source
invariant-loop-source g l = record {
  within : l.source ≤ length l.endings;
  told : Tells (said_of_ends l.plan l.is_lost (take l.source (zip l.endings l.counts))) (g.E.Outlet.contents l.fn.err) (g.E.Outlet.contents l.err)
      (g.E.Outlet.failures l.fn.err) (g.E.Outlet.failures l.err);
}

abbrev pub decreases-loop-source : goal.decreases-loop-source
decreases-loop-source g l = length l.endings - l.source
