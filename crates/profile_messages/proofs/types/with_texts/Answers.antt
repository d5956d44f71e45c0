use Rattle.std.proofs.Common.{rules}
use Rattle.std.proofs.lemmas.Result.{IfOk-from_err}
use Rattle.profile_messages.proofs.types.with_texts.Goals as goal

pub returns-in_err-name : goal.returns-in_err-name
returns-in_err-name c = IfOk-from_err _ _ c.from_residual.ensures.0

pub returns-in_err-unit : goal.returns-in_err-unit
returns-in_err-unit c = IfOk-from_err _ _ c.from_residual-in_err-unit.ensures.0

pub returns : goal.returns
returns c = search rules
