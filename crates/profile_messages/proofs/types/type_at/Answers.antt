use Rattle.std.proofs.lemmas.Result.{IfOk-from_err}
use Rattle.profile_messages.proofs.types.type_at.Goals as goal

pub returns-in_err-with_texts-in-Some : goal.returns-in_err-with_texts-in-Some
returns-in_err-with_texts-in-Some c = IfOk-from_err _ _ c.from_residual.ensures.0
