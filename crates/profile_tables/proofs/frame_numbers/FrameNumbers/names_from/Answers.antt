use Rattle.std.proofs.lemmas.Result.{IfOk-from_err}
use Rattle.std.proofs.lemmas.Grind.{common_steps}
use Rattle.std.proofs.Common.{rules, arith}
use Rattle.profile_tables.proofs.frame_numbers.FrameNumbers.names_from.Goals as goal

pub overflow_sub-len : goal.overflow_sub-len
overflow_sub-len c = search rules

pub name-requires : goal.name-requires
name-requires c = search rules

pub loop-number-init : goal.loop-number-init
loop-number-init c = grind (arith, common_steps)

pub loop-number-preserved : goal.loop-number-preserved
loop-number-preserved c = grind (arith, common_steps)

pub returns : goal.returns
returns c = grind (arith, common_steps)

pub returns-in_err-names : goal.returns-in_err-names
returns-in_err-names c = IfOk-from_err _ _ c.from_residual.ensures.0

pub returns-in_err-from_str : goal.returns-in_err-from_str
returns-in_err-from_str c = IfOk-from_err _ _ c.from_residual-in_err-from_str.ensures.0

pub returns-in_err-push : goal.returns-in_err-push
returns-in_err-push c = IfOk-from_err _ _ c.from_residual-in_err-push.ensures.0
