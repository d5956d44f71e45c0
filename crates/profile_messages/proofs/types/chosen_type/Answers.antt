use Rattle.std.proofs.lemmas.Result.{IfOk-from_err}
use Rattle.profile_messages.proofs.TypeLemmas.{chosen-type}
use Rattle.profile_messages.proofs.types.chosen_type.Goals as goal

pub returns-clause-chosen : goal.returns-clause-chosen
returns-clause-chosen c =
    chosen-type c.args.bytes.now c.args.pick.now c.in_ok-checked.checked.profile c.in_ok-checked.checked.chosen c.in_ok-found.found
    c.in_ok-checked.ensures.profile c.in_ok-checked.ensures.chosen c.in_ok-found.ensures

pub returns-in_err-checked-clause-faultless : goal.returns-in_err-checked-clause-faultless
returns-in_err-checked-clause-faultless c = IfOk-from_err _ _ c.from_residual.ensures.0

pub returns-in_err-checked-clause-chosen : goal.returns-in_err-checked-clause-chosen
returns-in_err-checked-clause-chosen c = IfOk-from_err _ _ c.from_residual.ensures.0

pub returns-in_err-found-clause-faultless : goal.returns-in_err-found-clause-faultless
returns-in_err-found-clause-faultless c = IfOk-from_err _ _ c.from_residual-in_err-found.ensures.0

pub returns-in_err-found-clause-chosen : goal.returns-in_err-found-clause-chosen
returns-in_err-found-clause-chosen c = IfOk-from_err _ _ c.from_residual-in_err-found.ensures.0
