use Rattle.std.proofs.Common.{◌≡◌, ◌≢◌, ◌∙◌, [], ℕ, ap, false, length, map, refl, subst, sym}
use Rattle.std.proofs.lemmas.Result.{IfErr-at_err, IfOk-at_ok}
use Rattle.std.specs.List.{list_any, zip}
use Rattle.std.specs.Prelude.{OnErr, OnOk}
use Rattle.std.specs.Io.KnownBytes.{Appends}
use Rattle.byte_io.specs.Pieces.{AppendsFront}
use Rattle.source_views.specs.Failures.{failure_of_collect}
use Rattle.source_views.specs.Messages.{Tells}
use Rattle.source_views.specs.declared.failures.Failure.TheVariants.{OutOfMemory}
use Rattle.source_views.proofs.MessageTexts.{tells_nothing}
use Rattle.ring_collect.specs.Collection.{GiveSuch}
use Rattle.ring_collect.specs.declared.faults.CollectFault.TheVariants.{Unfinished}
use Rattle.flame_tool.specs.checked.Drawings.{DrawsAll, DrawsSome}
use Rattle.flame_tool.specs.checked.LiveSaying.{AreFirstTold, end_of}
use Rattle.flame_tool.proofs.FirstSaid.{first_in_all, none_told}
use Rattle.flame_tool.proofs.DrawnRuns.{said_in_all, some_in_all, says_ends, says_lost, tells_all}
use Rattle.ring_collect.proofs.GivenRests.{any_given}
use Rattle.live_lines.specs.Lines.{live_lines, live_text}
use Rattle.flame_tool.specs.ToldLive.{is_stopped}
use Rattle.flame_tool.specs.checked.LiveEnds.{EndsLive, is_faulty_end, status_by_ends}
use Rattle.flame_tool.specs.checked.EndReports.{said_at_once}
use Rattle.flame_tool.proofs.LiveEndings.{ends_are, status_by_lists}
use Rattle.flame_tool.proofs.LiveSaid.{none_said, not_two, uncollected_said}
use Rattle.flame_tool.proofs.LiveSinks.{all_shown, collect_failed, drawn_text, err_because, none_shown, part_shown}
use Rattle.flame_tool.proofs.ReportLemmas.{left_tell}
use Rattle.flame_tool.proofs.live_graphs.send_graphs.Goals as goal

-- ---- before a sample comes

pub returns-in_err-parts-clause-err : goal.returns-in_err-parts-clause-err
returns-in_err-parts-clause-err g c =
    let live = c.requires.live in
    err_because c.from_residual.result OutOfMemory _ c.from_residual.ensures.1
    (any_given (λ reader. g.R.RowReader.gives reader) c.args.readers.items c.requires.possible
    (λ rests same. none_shown c.args.plan.now live.width live.every live.view (ap (λ options. options.every) live.options) c.args.is_terminal (g.W.Outlet.contents c.args.out.now) rests))

pub returns-in_err-parts-clause-told_first : goal.returns-in_err-parts-clause-told_first
returns-in_err-parts-clause-told_first g c =
    err_because c.from_residual.result OutOfMemory _ c.from_residual.ensures.1 (
      record { said = []; is_such = none_said c.args.plan.now (length c.args.readers.items); says = tells_nothing _ _ },
      any_given (λ reader. g.R.RowReader.gives reader) c.args.readers.items c.requires.possible (λ rests same. record { told = []; are = none_told rests; says = tells_nothing _ _ }),
    )

-- ---- where not all was collected

pub returns-in_err-endings-clause-err : goal.returns-in_err-endings-clause-err
returns-in_err-endings-clause-err g c =
    let parts = c.in_ok-parts.parts in
    let plan = c.args.plan.now in
    let known = g.W.Outlet.contents in
    let fault = c.in_err-endings.field-0.0 in
    let drawn = c.draw-reports in
    let some = IfErr-at_err (λ fault. GiveSuch (λ reader. g.R.RowReader.gives reader) c.args.readers.items (DrawsSome parts.merge.form parts.width parts.every (known c.args.out.now) (known drawn.new.out) fault)) c.in_err-endings.was drawn.ensures.err in
    let formed = ap (λ merge. merge.form) c.in_ok-parts.ensures.merge in
    err_because c.from_residual-in_err-endings.result (failure_of_collect fault) _ c.from_residual-in_err-endings.ensures.1 (record {
      rests = some.rests;
      are_given = some.are_given;
      holds = collect_failed plan parts.width parts.every c.args.is_terminal c.in_ok-parts.ensures.view c.in_ok-parts.ensures.every (known c.args.out.now) (known drawn.new.out) (length some.rests) []
          some.holds.taken some.rests refl refl fault some.holds.answer
          (subst (λ form. AppendsFront (live_lines form (length some.rests) parts.width parts.every some.holds.taken) (known c.args.out.now) (known drawn.new.out)) formed some.holds.gained);
    })

pub returns-in_err-endings-clause-told_first : goal.returns-in_err-endings-clause-told_first
returns-in_err-endings-clause-told_first g c =
    let plan = c.args.plan.now in
    let known = g.E.Outlet.contents in
    let failures = g.E.Outlet.failures in
    let made = c.new-reports.result in
    let left = c.draw-reports.result.0 in
    let said = left_tell known failures plan made.plan.now left.plan.now c.args.err.now made.start.value left.start.value left.err.now made.err.ghost_name left.err.ghost_name left.is_at_once left.told
    c.new-reports.ensures.plan c.new-reports.ensures.start c.draw-reports.ensures.setting left.said in
    let last = c.in_err-endings.err-1-own.given.1 (sym (said.0 ∙ c.new-reports.ensures.outlet)) in
    let some = some_in_all left.is_at_once plan (length c.args.readers.items) left.told c.draw-reports.ensures.some in
    let told = subst (λ err. Tells (said_at_once left.is_at_once plan left.told) (known c.args.err.now) (known err) (failures c.args.err.now) (failures err)) (sym last) said.1 in
    let fault = c.in_err-endings.field-0.0 in
    let those = IfErr-at_err (λ fault. ((source : ℕ) → fault ≢ Unfinished source) → GiveSuch (λ reader. g.R.RowReader.gives reader) c.args.readers.items (AreFirstTold left.told)) c.in_err-endings.was c.draw-reports.ensures.first in
    err_because c.from_residual-in_err-endings.result (failure_of_collect fault) _ c.from_residual-in_err-endings.ensures.1 (uncollected_said _ _ _ _ fault
    (record { said = said_at_once left.is_at_once plan left.told; is_such = some; says = told })
    (λ finished. let given = those finished in record { rests = given.rests; are_given = given.are_given; holds = first_in_all left.is_at_once plan _ left.told given.rests given.holds told }))

-- ---- where it was

pub returns-in-Err-clause-err : goal.returns-in-Err-clause-err
returns-in-Err-clause-err g c =
    let parts = c.in_ok-parts.parts in
    let plan = c.args.plan.now in
    let known = g.W.Outlet.contents in
    let drawn = c.draw-reports in
    let all = IfOk-at_ok (λ done. GiveSuch (λ reader. g.R.RowReader.gives reader) c.args.readers.items (DrawsAll parts.merge.form parts.width parts.every (known c.args.out.now) (known drawn.new.out) done drawn.result.0.told)) c.in_ok-endings.was drawn.ensures.ok in
    let form = ap (λ merge. merge.form) c.in_ok-parts.ensures.merge in
    let text = drawn_text plan parts.width parts.every c.args.is_terminal c.in_ok-parts.ensures.view c.in_ok-parts.ensures.every parts.merge.form form all.rests all.holds.taken all.holds.lists all.holds.order all.holds.run in
    record {
      rests = all.rests;
      are_given = all.are_given;
      holds = part_shown plan parts.width parts.every c.in_ok-parts.ensures.view c.in_ok-parts.ensures.every c.args.is_terminal (known c.args.out.now) (known drawn.new.out) all.rests all.holds.taken all.holds.lists all.holds.order all.holds.run _ text
          (subst (λ sent. OnErr sent (AppendsFront (live_text parts.merge.form (length all.rests) parts.width parts.every all.holds.taken) (known c.args.out.now) (known drawn.new.out))) c.in-Err.is all.holds.front);
    }

pub returns-in-Err-clause-told_first : goal.returns-in-Err-clause-told_first
returns-in-Err-clause-told_first g c =
    let plan = c.args.plan.now in
    let parts = c.in_ok-parts.parts in
    let known = g.E.Outlet.contents in
    let failures = g.E.Outlet.failures in
    let made = c.new-reports.result in
    let left = c.draw-reports.result.0 in
    let rest = c.report_rest in
    let told = left.told in
    let is_lost = c.in_ok-endings.field-0.is_lost in
    let said = left_tell known failures plan made.plan.now left.plan.now c.args.err.now made.start.value left.start.value left.err.now made.err.ghost_name left.err.ghost_name left.is_at_once told
    c.new-reports.ensures.plan c.new-reports.ensures.start c.draw-reports.ensures.setting left.said in
    let all = IfOk-at_ok (λ done. GiveSuch (λ reader. g.R.RowReader.gives reader) c.args.readers.items (DrawsAll parts.merge.form parts.width parts.every (g.W.Outlet.contents c.args.out.now) (g.W.Outlet.contents c.draw-reports.new.out) done told)) c.in_ok-endings.was c.draw-reports.ensures.ok in
    let ends = zip c.deref.result.now c.counts-counts.result.now in
    let ended : ends ≡ map end_of all.holds.lists = (λ i. zip (c.deref.ensures.value i) (c.counts-counts.ensures i)) ∙ ends_are _ _ all.holds.lists all.holds.ends in
    let whole = tells_all known failures left.is_at_once is_lost plan told ends c.args.err.now left.err.now rest.new.err said.1 rest.ensures.told rest.ensures.untold in
    let last = c.err-2-1.given.1 (sym (said.0 ∙ c.new-reports.ensures.outlet)) in
    let says = subst (λ err. Tells (said_in_all left.is_at_once plan is_lost told ends) (known c.args.err.now) (known err) (failures c.args.err.now) (failures err)) (sym last) whole in
    record {
      rests = all.rests;
      are_given = all.are_given;
      holds = says_lost plan left.is_at_once is_lost all.rests all.holds.lists told ends _ all.holds.run.lists all.holds.are_told ended says;
    }

pub returns-clause-ok : goal.returns-clause-ok
returns-clause-ok g c =
    let parts = c.in_ok-parts.parts in
    let plan = c.args.plan.now in
    let known = g.W.Outlet.contents in
    let drawn = c.draw-reports in
    let all = IfOk-at_ok (λ done. GiveSuch (λ reader. g.R.RowReader.gives reader) c.args.readers.items (DrawsAll parts.merge.form parts.width parts.every (known c.args.out.now) (known drawn.new.out) done drawn.result.0.told)) c.in_ok-endings.was drawn.ensures.ok in
    let form = ap (λ merge. merge.form) c.in_ok-parts.ensures.merge in
    let text = drawn_text plan parts.width parts.every c.args.is_terminal c.in_ok-parts.ensures.view c.in_ok-parts.ensures.every parts.merge.form form all.rests all.holds.taken all.holds.lists all.holds.order all.holds.run in
    let told = c.status_of_ends.ensures ∙ (λ i. status_by_ends plan.is_strict (c.deref-2.ensures.value i) (c.counts-counts.ensures i)) ∙ status_by_lists plan.is_strict _ _ all.holds.lists all.holds.ends in
    record {
      rests = all.rests;
      are_given = all.are_given;
      holds = subst (λ status. EndsLive c.args.is_terminal plan (known c.args.out.now) (known drawn.new.out) status all.rests) (sym told)
          (all_shown plan parts.width parts.every c.in_ok-parts.ensures.view c.in_ok-parts.ensures.every c.args.is_terminal (known c.args.out.now) (known drawn.new.out) all.rests all.holds.taken all.holds.lists all.holds.order all.holds.run _ text
          (subst (λ sent. OnOk sent (Appends (known c.args.out.now) (known drawn.new.out) (live_text parts.merge.form (length all.rests) parts.width parts.every all.holds.taken))) c.in_default.is all.holds.gained));
    }

pub returns-clause-told : goal.returns-clause-told
returns-clause-told g c =
    let plan = c.args.plan.now in
    let parts = c.in_ok-parts.parts in
    let known = g.E.Outlet.contents in
    let failures = g.E.Outlet.failures in
    let made = c.new-reports.result in
    let left = c.draw-reports.result.0 in
    let rest = c.report_rest in
    let told = left.told in
    let is_lost = c.in_ok-endings.field-0.is_lost in
    let said = left_tell known failures plan made.plan.now left.plan.now c.args.err.now made.start.value left.start.value left.err.now made.err.ghost_name left.err.ghost_name left.is_at_once told
    c.new-reports.ensures.plan c.new-reports.ensures.start c.draw-reports.ensures.setting left.said in
    let all = IfOk-at_ok (λ done. GiveSuch (λ reader. g.R.RowReader.gives reader) c.args.readers.items (DrawsAll parts.merge.form parts.width parts.every (g.W.Outlet.contents c.args.out.now) (g.W.Outlet.contents c.draw-reports.new.out) done told)) c.in_ok-endings.was c.draw-reports.ensures.ok in
    let ends = zip c.deref.result.now c.counts-counts.result.now in
    let ended : ends ≡ map end_of all.holds.lists = (λ i. zip (c.deref.ensures.value i) (c.counts-counts.ensures i)) ∙ ends_are _ _ all.holds.lists all.holds.ends in
    let whole = tells_all known failures left.is_at_once is_lost plan told ends c.args.err.now left.err.now rest.new.err said.1 rest.ensures.told rest.ensures.untold in
    let last = c.err-2-1.given.1 (sym (said.0 ∙ c.new-reports.ensures.outlet)) in
    let says = subst (λ err. Tells (said_in_all left.is_at_once plan is_lost told ends) (known c.args.err.now) (known err) (failures c.args.err.now) (failures err)) (sym last) whole in
    let kept = subst (λ sent. OnOk sent (is_lost ≡ false)) c.in_default.is all.holds.whole in
    let status = c.status_of_ends.ensures ∙ (λ i. status_by_ends plan.is_strict (c.deref-2.ensures.value i) (c.counts-counts.ensures i)) ∙ status_by_lists plan.is_strict _ _ all.holds.lists all.holds.ends in
    record {
      rests = all.rests;
      are_given = all.are_given;
      holds = says_ends plan left.is_at_once is_lost c.status_of_ends.result all.rests all.holds.lists told ends _ all.holds.run.lists all.holds.are_told ended kept (all.holds.unlost kept) status says;
    }

pub returns-clause-ended : goal.returns-clause-ended
returns-clause-ended g c =
    let endings = c.deref-2.result.now in
    let counts = c.counts-counts.result.now in
    not_two (list_any is_stopped endings) (list_any (is_faulty_end c.args.plan.now.is_strict) (zip endings counts)) c.status_of_ends.result c.status_of_ends.ensures
