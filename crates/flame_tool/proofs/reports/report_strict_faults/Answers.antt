use Rattle.std.proofs.Common.{get_or, ℕ, List, None, arith, map, take, take_all, subst, sym, string_bytes}
use Rattle.source_views.specs.Messages.{Tells, message_of_strict_fault, said_of_each}
use Rattle.source_views.proofs.MessageTexts.{tells_more, tells_nothing}
use Rattle.flame_tool.proofs.ToldEndings.{said_of_first}
use Rattle.flame_tool.proofs.reports.report_strict_faults.Goals as goal

pub loop-source-init : goal.loop-source-init
loop-source-init g c = record { within = omega arith; told = λ unwanted. tells_nothing _ _ }

pub loop-source-preserved : goal.loop-source-preserved
loop-source-preserved g c =
    let faults = c.args.faults.now in
    let at = c.loop-source.source in
    let start = c.args.err.now in
    let gains : List ℕ → Type 0 =
    λ text. Tells text (g.E.Outlet.contents start) (g.E.Outlet.contents c.report_strict.new.err) (g.E.Outlet.failures start) (g.E.Outlet.failures c.report_strict.new.err) in
    let say = message_of_strict_fault (map string_bytes c.args.files.now) in
    let fault = get_or faults at None in
    let before = said_of_each say 0 (take at faults) in
    record {
      within = omega arith;
      told = λ unwanted.
          subst gains (sym (said_of_first say faults at None (omega arith)))
          (tells_more before (say at fault) _ _ _ _ _ _ (c.loop-source.invariant.told unwanted) (c.report_strict.ensures.told unwanted));
    }

pub returns : goal.returns
returns g c = record {
  told = λ unwanted. subst (λ faults. Tells (said_of_each (message_of_strict_fault (map string_bytes c.args.files.now)) 0 faults) (g.E.Outlet.contents c.args.err.now) (g.E.Outlet.contents c.loop-source.err)
      (g.E.Outlet.failures c.args.err.now) (g.E.Outlet.failures c.loop-source.err))
      (take_all c.loop-source.source c.args.faults.now (omega arith)) (c.loop-source.invariant.told unwanted);
}
