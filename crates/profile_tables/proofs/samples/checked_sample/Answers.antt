use Rattle.std.proofs.lemmas.Result.{IfOk-from_err}
use Rattle.std.proofs.Common.{rules}
use Rattle.std.proofs.Common.{◌≡◌, ℕ, List, Ok, sym, ◌∙◌, ap, subst, arith}
use Rattle.std.specs.Prelude.{is_none, slice_index, unwrap_or}
use Rattle.std.specs.List.{list_any}
use Rattle.profile_tables.specs.checked.SeenOutline.{seen_outline}
use Rattle.profile_messages.specs.SeenNumbers.{AreNumbersOf}
use Rattle.profile_tables.proofs.SampleLemmas.{Passes, counted, too_deep, too_large, no_fault, weight-passed}
use Rattle.profile_tables.proofs.samples.checked_sample.Goals as goal

pub returns-then-depth-gt-FRAME_LIMIT : goal.returns-then-depth-gt-FRAME_LIMIT
returns-then-depth-gt-FRAME_LIMIT c =
    let tables = seen_outline c.args.outline.now in
    let numbers : AreNumbersOf c.args.sample.now (Ok c.in-Ok.numbers) = subst (AreNumbersOf c.args.sample.now) c.in-Ok.is c.in_ok-numbers.ensures in
    let passes : Passes tables c.args.sample.now c.in-Ok.numbers.values.items c.in-Ok.numbers.ids.items c.weight_among-weight.result = record {
      message = numbers.0;
      values_are = numbers.2;
      ids_are = numbers.1;
      count = sym c.in-Ok.numbers.values.ok.0 ∙ sym c.len.ensures ∙ omega (arith, c.if-len-outline.false);
      known = ap (list_any (λ id. is_none (tables.frames id))) (sym c.deref.ensures.value) ∙ c.in-Some.ensures.0;
      weight_is = c.weight_among-weight.ensures ∙ ap (λ (list : List ℕ). slice_index list (unwrap_or c.args.outline.now.chosen 0)) c.deref-2.ensures.value;
      positive = omega (arith, c.if-weight.false);
    } in
    let depth : c.in-Some.depth ≡ counted tables c.in-Ok.numbers.ids.items = c.in-Some.ensures.1 ∙ ap (counted tables) c.deref.ensures.value in
    too_deep tables c.args.total c.args.sample.now _ _ _ _ passes depth c.if-depth-gt-FRAME_LIMIT.true

pub returns-then-total-weight-gt-WEIGHT_LIMIT : goal.returns-then-total-weight-gt-WEIGHT_LIMIT
returns-then-total-weight-gt-WEIGHT_LIMIT c =
    let tables = seen_outline c.args.outline.now in
    let numbers : AreNumbersOf c.args.sample.now (Ok c.in-Ok.numbers) = subst (AreNumbersOf c.args.sample.now) c.in-Ok.is c.in_ok-numbers.ensures in
    let passes : Passes tables c.args.sample.now c.in-Ok.numbers.values.items c.in-Ok.numbers.ids.items c.weight_among-weight.result = record {
      message = numbers.0;
      values_are = numbers.2;
      ids_are = numbers.1;
      count = sym c.in-Ok.numbers.values.ok.0 ∙ sym c.len.ensures ∙ omega (arith, c.if-len-outline.false);
      known = ap (list_any (λ id. is_none (tables.frames id))) (sym c.deref.ensures.value) ∙ c.in-Some.ensures.0;
      weight_is = c.weight_among-weight.ensures ∙ ap (λ (list : List ℕ). slice_index list (unwrap_or c.args.outline.now.chosen 0)) c.deref-2.ensures.value;
      positive = omega (arith, c.if-weight.false);
    } in
    let depth : c.in-Some.depth ≡ counted tables c.in-Ok.numbers.ids.items = c.in-Some.ensures.1 ∙ ap (counted tables) c.deref.ensures.value in
    too_large tables c.args.total c.args.sample.now _ _ _ _ passes depth c.if-depth-gt-FRAME_LIMIT.false c.if-total-weight-gt-WEIGHT_LIMIT.true

pub returns : goal.returns
returns c =
    let tables = seen_outline c.args.outline.now in
    let numbers : AreNumbersOf c.args.sample.now (Ok c.in-Ok.numbers) = subst (AreNumbersOf c.args.sample.now) c.in-Ok.is c.in_ok-numbers.ensures in
    let passes : Passes tables c.args.sample.now c.in-Ok.numbers.values.items c.in-Ok.numbers.ids.items c.weight_among-weight.result = record {
      message = numbers.0;
      values_are = numbers.2;
      ids_are = numbers.1;
      count = sym c.in-Ok.numbers.values.ok.0 ∙ sym c.len.ensures ∙ omega (arith, c.if-len-outline.false);
      known = ap (list_any (λ id. is_none (tables.frames id))) (sym c.deref.ensures.value) ∙ c.in-Some.ensures.0;
      weight_is = c.weight_among-weight.ensures ∙ ap (λ (list : List ℕ). slice_index list (unwrap_or c.args.outline.now.chosen 0)) c.deref-2.ensures.value;
      positive = omega (arith, c.if-weight.false);
    } in
    let depth : c.in-Some.depth ≡ counted tables c.in-Ok.numbers.ids.items = c.in-Some.ensures.1 ∙ ap (counted tables) c.deref.ensures.value in (
      no_fault tables c.args.total c.args.sample.now _ _ _ _ passes depth c.if-depth-gt-FRAME_LIMIT.false c.if-total-weight-gt-WEIGHT_LIMIT.false,
      numbers.1,
      weight-passed tables c.args.sample.now _ _ _ passes,
    )

pub returns-in-Err : goal.returns-in-Err
returns-in-Err c = search rules

pub returns-then-len-outline : goal.returns-then-len-outline
returns-then-len-outline c = search rules

pub returns-in_default : goal.returns-in_default
returns-in_default c = search rules

pub overflow_add-total : goal.overflow_add-total
overflow_add-total c = search rules

pub returns-in_err-numbers : goal.returns-in_err-numbers
returns-in_err-numbers c = IfOk-from_err _ _ c.from_residual.ensures.0
