use Rattle.std.proofs.Common.{get_or, ◌≡◌, ◌<◌, ℕ, arith, length, take, take_all, subst, sym}
use Rattle.std.specs.List.{zip}
use Rattle.std.proofs.lemmas.Slice.Zip.{get_or-zip, length-zip}
use Rattle.stack_core.specs.declared.endings.SourceEnd.{SourceEnd}
use Rattle.stack_core.specs.declared.endings.SourceEnd.TheVariants.{Clean}
use Rattle.source_views.specs.Messages.{Tells}
use Rattle.source_views.proofs.MessageTexts.{tells_more, tells_nothing}
use Rattle.flame_tool.specs.checked.LiveSaying.{message_of_counted, said_of_ends}
use Rattle.flame_tool.proofs.ToldEndings.{said_of_first}
use Rattle.flame_tool.proofs.end_reports.report_ends.Goals as goal

pub loop-source-init : goal.loop-source-init
loop-source-init g c = record { within = omega arith; told = tells_nothing _ _ }

pub loop-source-preserved : goal.loop-source-preserved
loop-source-preserved g c =
    let plan = c.args.plan.now in
    let endings = c.args.endings.now in
    let counts = c.args.counts.now in
    let ends = zip endings counts in
    let at = c.loop-source.source in
    let start = c.args.err.now in
    let mid = c.loop-source.err in
    let new = c.report_end.new.err in
    let say = message_of_counted plan c.args.is_lost in
    let none : SourceEnd × ℕ = (Clean 0, 0) in
    let within : at < length (zip endings counts) = omega (arith, length-zip endings counts) in
    let is : get_or (zip endings counts) at none ≡ (get_or endings at (Clean 0), get_or counts at 0) = get_or-zip endings counts at none (omega arith) (omega arith) in
    record {
      within = omega arith;
      told = subst (λ text. Tells text (g.E.Outlet.contents start) (g.E.Outlet.contents new) (g.E.Outlet.failures start) (g.E.Outlet.failures new)) (sym (said_of_first say ends at none within))
          (tells_more (said_of_ends plan c.args.is_lost (take at ends)) (say at (get_or ends at none)) _ _ _ _ _ _ c.loop-source.invariant.told
          (subst (λ end. Tells (say at end) (g.E.Outlet.contents mid) (g.E.Outlet.contents new) (g.E.Outlet.failures mid) (g.E.Outlet.failures new)) (sym is) c.report_end.ensures.told));
    }

pub returns : goal.returns
returns g c =
    let endings = c.args.endings.now in
    let counts = c.args.counts.now in
    record {
      told = subst (λ ends. Tells (said_of_ends c.args.plan.now c.args.is_lost ends) (g.E.Outlet.contents c.args.err.now) (g.E.Outlet.contents c.loop-source.err)
          (g.E.Outlet.failures c.args.err.now) (g.E.Outlet.failures c.loop-source.err))
          (take_all c.loop-source.source (zip endings counts) (omega (arith, length-zip endings counts))) c.loop-source.invariant.told;
    }
