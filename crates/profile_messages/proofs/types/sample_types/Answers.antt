use Rattle.std.proofs.lemmas.Result.{IfOk-from_err}
use Rattle.profile_messages.proofs.types.sample_types.Goals as goal

pub returns-in_err-checked-clause-faultless : goal.returns-in_err-checked-clause-faultless
returns-in_err-checked-clause-faultless c = IfOk-from_err _ _ c.from_residual.ensures.0

pub returns-in_err-checked-clause-types : goal.returns-in_err-checked-clause-types
returns-in_err-checked-clause-types c = IfOk-from_err _ _ c.from_residual.ensures.0
