use Rattle.std.proofs.Common.{rules}
use Rattle.std.proofs.lemmas.Result.{IfOk-from_err}
use Rattle.profile_messages.proofs.types.text_at.Goals as goal

pub returns-in_err-text : goal.returns-in_err-text
returns-in_err-text c = IfOk-from_err _ _ c.from_residual.ensures.0

pub returns : goal.returns
returns c = search rules
