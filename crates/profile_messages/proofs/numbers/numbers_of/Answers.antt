use Rattle.std.proofs.Common.{rules}
use Rattle.std.proofs.lemmas.Result.{IfOk-from_err}
use Rattle.profile_messages.proofs.numbers.numbers_of.Goals as goal

pub returns-in_err-ids : goal.returns-in_err-ids
returns-in_err-ids c = IfOk-from_err _ _ c.from_residual.ensures.0

pub returns-in_err-kind : goal.returns-in_err-kind
returns-in_err-kind c = IfOk-from_err _ _ c.from_residual-in_err-kind.ensures.0

pub returns-in-Some : goal.returns-in-Some
returns-in-Some c = search rules

pub returns-in-None : goal.returns-in-None
returns-in-None c = search rules
