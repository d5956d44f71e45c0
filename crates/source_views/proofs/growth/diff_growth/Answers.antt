use Rattle.std.proofs.Common.{◌≡◌, ◌∙◌, ℕ, List, ap, arith, map, subst, sym}
use Rattle.std.specs.Prelude.{Option, Some}
use Rattle.std.proofs.lemmas.Result.{IfOk-weaker}
use Rattle.stack_core.specs.Ledgers.{ListState}
use Rattle.function_sums.specs.FunctionChanges.{AreFunctionChanges}
use Rattle.function_sums.specs.Growth.{grown}
use Rattle.function_sums.specs.declared.changes.ChangeOrder.{ChangeOrder}
use Rattle.function_sums.specs.declared.changes.FunctionChange.{FunctionChange}
use Rattle.function_sums.proofs.FunctionList.{changes_alone}
use Rattle.function_sums.specs.GrownLine.{grown_line}
use Rattle.source_views.specs.Texts.{grown_over, limit_line, order_of}
use Rattle.source_views.proofs.TextLemmas.{listed_samples}
use Rattle.source_views.proofs.growth.diff_growth.Goals as goal

pub returns-in_ok-names-in-Some : goal.returns-in_ok-names-in-Some
returns-in_ok-names-in-Some c =
    let lists = c.args.sources.now.lists in
    let diff = c.args.diff in
    let points = c.in-Some.points in
    let first = ap (λ (list : ListState). list.samples) c.index-lists-0.is ∙ listed_samples lists c.lists-lists.result.now 0 c.index-lists-0.result c.lists-lists.ensures.lists (omega (arith, c.requires)) in
    let second = ap (λ (list : ListState). list.samples) c.index-lists-1.is ∙ listed_samples lists c.lists-lists.result.now 1 c.index-lists-1.result c.lists-lists.ensures.lists (omega (arith, c.requires)) in
    let before = c.index-lists-0.result.samples in
    let after = c.index-lists-1.result.samples in
    let changes = c.in_ok-changes-in-Some.changes.items in
    let are = subst (λ (by : ChangeOrder). AreFunctionChanges by before after changes) c.order_of-order.ensures c.in_ok-changes-in-Some.ensures in
    let listed = c.deref.ensures.value ∙ changes_alone (order_of diff before after) before after changes are in
    let named = ap (map (λ name. name.now)) c.deref-in-Some.ensures.value ∙ c.in_ok-names-in-Some.ensures ∙ (λ i. map (λ (change : FunctionChange). change.name) (grown points (c.wholes.ensures.both i) (listed i))) in
    let limited = ap (λ (limit : Option ℕ). limit_line limit (grown_over limit (order_of diff before after) before after)) (sym c.in-Some.is) in
    IfOk-weaker c.grown_line.result _ _ (λ line is. is ∙ ap (grown_line points) named ∙ limited ∙ (λ i. limit_line diff.fail_over (grown_over diff.fail_over (order_of diff (first i) (second i)) (first i) (second i)))) c.grown_line.ensures
