-- The endings so far were told.
use Rattle.std.proofs.Common.{◌≡◌, ◌≤◌, ◌-◌, false, length, map, take, string_bytes}
use Rattle.flame_tool.specs.checked.Saying.{TellsEndings}
use Rattle.flame_tool.proofs.reports.report_endings.Given as goal

abbrev pub invariant-loop-source : goal.invariant-loop-source
invariant-loop-source g l = record {
  within : l.source ≤ length l.lists;
  told : l.fn.advice.is_wanted ≡ false → TellsEndings (map string_bytes l.files) (g.E.Outlet.contents l.fn.err) (g.E.Outlet.contents l.err)
      (g.E.Outlet.failures l.fn.err) (g.E.Outlet.failures l.err) (map (λ list. list.ending) (take l.source l.lists));
}

abbrev pub decreases-loop-source : goal.decreases-loop-source
decreases-loop-source g l = length l.lists - l.source
