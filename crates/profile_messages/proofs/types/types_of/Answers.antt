use Rattle.std.proofs.Common.{rules}
use Rattle.std.proofs.lemmas.Result.{IfOk-from_err}
use Rattle.profile_messages.proofs.types.types_of.Goals as goal

pub returns-in_err-types : goal.returns-in_err-types
returns-in_err-types c = IfOk-from_err _ _ c.from_residual.ensures.0

pub returns-in_err-with_texts : goal.returns-in_err-with_texts
returns-in_err-with_texts c = IfOk-from_err _ _ c.from_residual-in_err-with_texts.ensures.0

pub returns-in_err-push : goal.returns-in_err-push
returns-in_err-push c = IfOk-from_err _ _ c.from_residual-in_err-push.ensures.0

pub loop-value_type-init : goal.loop-value_type-init
loop-value_type-init c = search rules

pub offset_bounds-value_types-value_type-index : goal.offset_bounds-value_types-value_type-index
offset_bounds-value_types-value_type-index c = search rules

pub bounds-value_types-value_type-index : goal.bounds-value_types-value_type-index
bounds-value_types-value_type-index c = search rules
