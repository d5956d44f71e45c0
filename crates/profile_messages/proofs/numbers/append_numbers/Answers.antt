use Rattle.std.proofs.Common.{rules}
use Rattle.std.proofs.lemmas.Result.{IfOk-from_err}
use Rattle.profile_messages.proofs.numbers.append_numbers.Goals as goal

pub returns-in_err-push-in-Varint : goal.returns-in_err-push-in-Varint
returns-in_err-push-in-Varint c = IfOk-from_err _ _ c.from_residual.ensures.0

pub returns-in_ok-push-in-Varint : goal.returns-in_ok-push-in-Varint
returns-in_ok-push-in-Varint c = search rules

pub returns-in-Bytes : goal.returns-in-Bytes
returns-in-Bytes c = search rules

pub returns-in-Eight : goal.returns-in-Eight
returns-in-Eight c = search rules
