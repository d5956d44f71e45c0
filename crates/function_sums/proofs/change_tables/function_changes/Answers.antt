use Rattle.std.proofs.Common.{◌≡◌, ◌∙◌, ◌++◌, List, All, ap, map, subst, sym}
use Rattle.std.proofs.lemmas.List.Elements.{All-nil}
use Rattle.std.proofs.lemmas.List.Filters.{dedup_is}
use Rattle.std.proofs.lemmas.Result.{IfOk-weaker}
use Rattle.function_sums.specs.declared.sums.FunctionSum.{FunctionSum}
use Rattle.function_sums.specs.FunctionChanges.{AreFunctionChanges, change_of}
use Rattle.function_sums.specs.checked.Sides.{ChangeRow, HasSize, row_name}
use Rattle.function_sums.proofs.ChangedTable.{changed, row_eq}
use Rattle.function_sums.proofs.change_tables.function_changes.Goals as goal

pub returns : goal.returns
returns c =
    let named = λ (sum : FunctionSum). sum.name in
    let rows = c.add_rows-2.new.rows.items in
    let sorted = c.sort_unstable.new.self.items in
    let kept = c.dedup.new.self.items in
    let names : map row_name rows ≡ map named c.args.before.now ++ map named c.args.after.now =
    c.in_ok-add_rows-2.ensures.names ∙ ap (λ names. names ++ map named c.args.after.now) (c.in_ok-add_rows.ensures.names ∙ ap (λ (rows : List ChangeRow). map row_name rows ++ map named c.args.before.now) c.in_ok-rows.ensures.items) in
    IfOk-weaker c.changes.result _ _ (λ all made first second befores afters olds news.
    let sides = c.in_ok-sides.ensures first second befores afters olds news in
    let sizes = c.in_ok-add_rows-2.ensures.sizes befores afters sides (c.in_ok-add_rows.ensures.sizes befores afters sides (subst (All (HasSize c.args.by befores afters)) (sym c.in_ok-rows.ensures.items) (All-nil (HasSize c.args.by befores afters)))) in
    subst (AreFunctionChanges c.args.by befores afters) (sym (made befores afters sides ∙ ap (map (λ (row : ChangeRow). change_of befores afters (row_name row))) c.deref.ensures.value))
    (changed c.args.by first second befores afters c.args.before.now c.args.after.now olds news rows sorted kept names sizes c.sort_unstable.ensures.permutation c.sort_unstable.ensures.sorted (dedup_is row_eq sorted kept c.dedup.ensures.filtered)))
    c.changes.ensures
