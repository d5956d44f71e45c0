use Rattle.std.proofs.Common.{◌≡◌, ◌++◌, ◌∷◌, [], sym, subst, arith}
use Rattle.std.proofs.lemmas.Result.{IfOk-from_err}
use Rattle.ring_collect.specs.checked.Settlement.{AreListsOf}
use Rattle.ring_collect.proofs.RunningSourceLemmas.{taken_all}
use Rattle.ring_collect.proofs.SettlementLemmas.{one_more_list}
use Rattle.ring_collect.proofs.runs.lists_of.Goals as goal

pub returns-in_err-lists : goal.returns-in_err-lists
returns-in_err-lists c = IfOk-from_err _ _ c.from_residual.ensures.0

pub returns-in_err-list_of_ledger : goal.returns-in_err-list_of_ledger
returns-in_err-list_of_ledger c = IfOk-from_err _ _ c.from_residual-in_err-list_of_ledger.ensures.0

pub returns-in_err-push : goal.returns-in_err-push
returns-in_err-push c = IfOk-from_err _ _ c.from_residual-in_err-push.ensures.0

pub loop-ledger-preserved : goal.loop-ledger-preserved
loop-ledger-preserved c =
    let list = c.in_ok-list_of_ledger.field-0 in
    let given = c.in_ok-list_of_ledger.ensures in
    subst (AreListsOf (c.loop-ledger.yielded ++ c.in-Some.ledger ∷ [])) (sym c.in_ok-push.ensures.items)
    (one_more_list c.loop-ledger.invariant c.in-Some.ledger list given.list.0 given.list.1 given.names)

pub returns : goal.returns
returns c =
    let whole : c.args.ledgers.items ≡ c.loop-ledger.yielded =
    taken_all c.into_iter-ledger-iterator.result c.loop-ledger.yielded c.loop-ledger.ledger-iterator c.into_iter-ledger-iterator.ensures.into_iter_gives.0
    c.loop-ledger.yielded_by (let ok = c.loop-ledger.ledger-iterator.rest.ok.0 in let none = c.in-None.ensures.steps.0 in omega arith) in
    subst (λ ledgers. AreListsOf ledgers c.loop-ledger.lists.items) (sym whole) c.loop-ledger.invariant
