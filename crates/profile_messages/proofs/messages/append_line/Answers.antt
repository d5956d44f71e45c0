use Rattle.std.proofs.Common.{rules}
use Rattle.std.proofs.lemmas.Result.{IfOk-from_err}
use Rattle.profile_messages.proofs.messages.append_line.Goals as goal

pub returns-in_err-push-in-Ok : goal.returns-in_err-push-in-Ok
returns-in_err-push-in-Ok c = IfOk-from_err _ _ c.from_residual.ensures.0

pub returns-in_default : goal.returns-in_default
returns-in_default c = search rules

pub returns-in-Err : goal.returns-in-Err
returns-in-Err c = search rules
