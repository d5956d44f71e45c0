use Rattle.std.proofs.Common.{◌∙◌, ◌++◌, ℕ, List, ap, cond, subst, sym}
use Rattle.function_sums.specs.declared.call_sides.CallSide.TheVariants.{Callers, Callees}
use Rattle.merged_stacks.specs.Timeline.{samples_of}
use Rattle.merging.specs.Sums.{all_samples}
use Rattle.source_views.specs.Failures.{Sends}
use Rattle.function_sums.specs.CallTexts.{calls_line, calls_table}
use Rattle.function_sums.specs.Told.{told_of}
use Rattle.source_views.proofs.call_texts.send_peek.Goals as goal

pub returns-then-table-clause-sent : goal.returns-then-table-clause-sent
returns-then-table-clause-sent g c =
    let table = c.args.table.now in
    let samples = all_samples (samples_of c.args.sources.lists) in
    let told = told_of c.args.telling.now in
    let callers = c.of_calls-first.ensures.calls table.name samples (c.deref.ensures.value ∙ c.in_ok-callers.ensures samples c.in_ok-merged.ensures) in
    let callees = c.of_calls-then.ensures.calls table.name samples (c.deref-then-table.ensures.value ∙ c.in_ok-callees.ensures samples c.in_ok-merged.ensures) in
    let above = calls_line told Callers table.name table.rows samples in
    let below = calls_line told Callees table.name table.rows samples in
    let upper = calls_table table.is_exact told Callers table.name table.rows samples in
    let lower = calls_table table.is_exact told Callees table.name table.rows samples in
    subst (λ (text : List ℕ). Sends text (g.W.Outlet.contents c.args.out.now) (g.W.Outlet.contents c.send_both.new.out) c.send_both.result)
    ((λ i. callers i ++ callees i) ∙ ap (λ b. cond b above upper ++ cond b below lower) (sym c.if-table.true)) c.send_both.ensures.sent
