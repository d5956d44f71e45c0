use Rattle.std.proofs.Common.{rules}
use Rattle.std.proofs.lemmas.Result.{IfOk-from_err}
use Rattle.profile_messages.proofs.messages.decode_location.Goals as goal

pub returns-in_err-fault-in-4 : goal.returns-in_err-fault-in-4
returns-in_err-fault-in-4 c = IfOk-from_err _ _ c.from_residual.ensures.0

pub loop-field-init : goal.loop-field-init
loop-field-init c = search rules

pub returns-in-Some : goal.returns-in-Some
returns-in-Some c = search rules

pub returns-in-Err : goal.returns-in-Err
returns-in-Err c = search rules
