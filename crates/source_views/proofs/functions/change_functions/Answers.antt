use Rattle.std.proofs.Common.{subst, sym}
use Rattle.std.proofs.lemmas.Result.{IfOk-weaker}
use Rattle.function_sums.specs.FunctionChanges.{AreFunctionChanges}
use Rattle.function_sums.specs.FunctionSums.{AreFunctionSums}
use Rattle.source_views.proofs.functions.change_functions.Goals as goal

pub returns : goal.returns
returns c =
    let by = c.args.by in
    let before = c.args.before.now.samples in
    let after = c.args.after.now.samples in
    let olds = subst (AreFunctionSums by.by before) (sym c.deref.ensures.value) c.in_ok-olds.ensures in
    let news = subst (AreFunctionSums by.by after) (sym c.deref-2.ensures.value) c.in_ok-news.ensures in
    IfOk-weaker c.function_changes.result _ (λ changes. AreFunctionChanges by before after changes.items)
    (λ changes made. made by.by by.by before after olds news)
    c.function_changes.ensures
