use Rattle.std.proofs.Common.{subst, sym}
use Rattle.live_lines.specs.Ends.{ToldEnd}
use Rattle.flame_tool.specs.checked.EndReports.{TellsUnlessFailed, said_at_once}
use Rattle.flame_tool.proofs.ReportLemmas.{said_more}
use Rattle.flame_tool.proofs.end_reports.EndReportsEndTeller.tell.Goals as goal

pub invariant_of-self : goal.invariant_of-self
invariant_of-self g c =
    let reports = c.args.self.now in
    let known = g.E.Outlet.contents in
    let failures = g.E.Outlet.failures in
    let start = reports.start.value in
    let new = c.report_end.new.err in
    let end : ToldEnd = record { source = c.args.source; ending = c.args.ending.now; count = c.args.count; is_lost = c.args.is_lost } in
    let told = c.tell.ensures.told in
    record {
      said = subst (λ told. TellsUnlessFailed (said_at_once reports.is_at_once reports.plan.now told) (known start) (known new) (failures start) (failures new)) (sym told)
          (said_more reports.is_at_once reports.plan.now reports.told end (known start) (known reports.err.now) (known new) (failures start) (failures reports.err.now) (failures new) c.if-self.true reports.said c.report_end.ensures.told);
    }
