use Rattle.std.proofs.lemmas.Result.{IfOk-from_err}
use Rattle.std.proofs.lemmas.Grind.{common_steps}
use Rattle.std.proofs.Common.{rules, arith}
use Rattle.std.proofs.Common.{ap, map}
use Rattle.std.specs.Prelude.{string_bytes}
use Rattle.std.specs.List.{slice_get}
use Rattle.profile_tables.proofs.FunctionLemmas.{AreMade-none, names-more, no_function}
use Rattle.profile_tables.proofs.functions.function_names.Goals as goal

pub loop-function-init : goal.loop-function-init
loop-function-init c = record {
  made = AreMade-none _ _ c.new-2.ensures.empty;
  places = ap (map (slice_get (map string_bytes c.new.result.items))) c.in_ok-places.ensures.items;
}

pub loop-function-preserved : goal.loop-function-preserved
loop-function-preserved c = record {
  made = c.in_ok-name_index.ensures.made;
  places = names-more _ _ _ c.args.functions.now no_function c.loop-function.places.items _ c.loop-function.function-index c.in_ok-name_index.field-0 c.text_index-index.result
      c.loop-function-test.true c.loop-function.invariant.places c.in_ok-name_index.ensures.kept c.in_ok-name_index.ensures.place
      c.text_index-index.ensures c.in_ok-push.ensures.items;
}

pub offset_bounds-functions-function-index : goal.offset_bounds-functions-function-index
offset_bounds-functions-function-index c = search rules

pub bounds-functions-function-index : goal.bounds-functions-function-index
bounds-functions-function-index c = search rules

pub name_index-requires : goal.name_index-requires
name_index-requires c = search rules

pub returns : goal.returns
returns c = grind (arith, common_steps)

pub returns-in_err-places : goal.returns-in_err-places
returns-in_err-places c = IfOk-from_err _ _ c.from_residual.ensures.0

pub returns-in_err-name_index : goal.returns-in_err-name_index
returns-in_err-name_index c = IfOk-from_err _ _ c.from_residual-in_err-name_index.ensures.0

pub returns-in_err-push : goal.returns-in_err-push
returns-in_err-push c = IfOk-from_err _ _ c.from_residual-in_err-push.ensures.0
