use Rattle.std.proofs.Common.{◌∙◌, ℕ, List, ap, cond, subst, sym}
use Rattle.merged_stacks.specs.Timeline.{samples_of}
use Rattle.merging.specs.Sums.{all_samples}
use Rattle.source_views.specs.Failures.{Sends}
use Rattle.function_sums.specs.CallTexts.{calls_line, calls_table}
use Rattle.function_sums.specs.Told.{told_of}
use Rattle.source_views.proofs.call_texts.send_calls.Goals as goal

pub returns-then-table-clause-sent : goal.returns-then-table-clause-sent
returns-then-table-clause-sent g c =
    let table = c.args.table.now in
    let samples = all_samples (samples_of c.args.sources.lists) in
    let told = told_of c.args.telling.now in
    let weighed = c.deref.ensures.value ∙ c.in_ok-sums.ensures samples c.in_ok-merged.ensures in
    let line = calls_line told c.args.side table.name table.rows samples in
    let lines = calls_table table.is_exact told c.args.side table.name table.rows samples in
    subst (λ (text : List ℕ). Sends text (g.W.Outlet.contents c.args.out.now) (g.W.Outlet.contents c.send_text.new.out) c.send_text.result)
    (c.of_calls-line.ensures.calls table.name samples weighed ∙ ap (λ b. cond b line lines) (sym c.if-table.true)) c.send_text.ensures.sent
