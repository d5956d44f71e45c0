use Rattle.std.proofs.Common.{◌∙◌, ◌++◌, ◌∷◌, [], ap, sym, map}
use Rattle.std.proofs.lemmas.List.{map_push}
use Rattle.std.proofs.lemmas.Result.{IfOk-from_err}
use Rattle.ring_collect.proofs.runs.endings_of.Goals as goal

pub returns-in_err-endings : goal.returns-in_err-endings
returns-in_err-endings c = IfOk-from_err _ _ c.from_residual.ensures.0

pub returns-in_err-push : goal.returns-in_err-push
returns-in_err-push c = IfOk-from_err _ _ c.from_residual-in_err-push.ensures.0

pub loop-list-preserved : goal.loop-list-preserved
loop-list-preserved c =
    c.in_ok-push.ensures.items ∙ ap (λ endings. endings ++ c.ending.result.now ∷ []) c.loop-list.invariant
    ∙ ap (λ ending. map (λ list. list.ending) c.loop-list.yielded ++ ending ∷ []) c.ending.ensures ∙ sym (map_push (λ list. list.ending) c.loop-list.yielded c.in-Some.list)
