use Rattle.std.proofs.lemmas.Result.{IfOk-from_err}
use Rattle.profile_messages.proofs.numbers.append_run.Goals as goal

pub returns-in_err-push-in-Ok-Some : goal.returns-in_err-push-in-Ok-Some
returns-in_err-push-in-Ok-Some c = IfOk-from_err _ _ c.from_residual.ensures.0
