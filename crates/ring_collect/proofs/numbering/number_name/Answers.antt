use Rattle.std.proofs.Common.{rules}
use Rattle.std.proofs.lemmas.Result.{IfOk-from_err}
use Rattle.ring_collect.proofs.numbering.number_name.Goals as goal

pub returns-in_err-number : goal.returns-in_err-number
returns-in_err-number c = search (rules, IfOk-from_err)

pub returns-in_err-from_str : goal.returns-in_err-from_str
returns-in_err-from_str c = search (rules, IfOk-from_err)

pub returns-in_err-push : goal.returns-in_err-push
returns-in_err-push c = search (rules, IfOk-from_err)
