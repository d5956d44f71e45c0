use Rattle.std.proofs.lemmas.Result.{IfOk-from_err}
use Rattle.std.proofs.Common.{◌≡◌, ◌++◌, Option, Some, Ok, sym, ◌∙◌, subst}
use Rattle.std.specs.Prelude.{flat_map}
use Rattle.wire_fields.specs.Field.{WireField, seen_field}
use Rattle.wire_fields.specs.Reading.{Left, Answers}
use Rattle.wire_fields.specs.declared.field.Field.{Field}
use Rattle.profile_messages.specs.Message.{first, repeated_from, repeated_numbers}
use Rattle.profile_messages.specs.Shapes.{faults_of_field, faults_in, sample_shape, kinds_of_fault}
use Rattle.profile_messages.proofs.FirstLemmas.{first-behind_item, gathered-item}
use Rattle.profile_messages.proofs.numbers.append_message.Goals as goal

pub loop-field-preserved : goal.loop-field-preserved
loop-field-preserved c =
    let field = seen_field c.in-Ok-Some.field in
    let left = c.next.new.self in
    let read : Answers seen_field (Ok (Some c.in-Ok-Some.field)) c.loop-field.fields left =
    subst (λ (found : Option Field). Answers seen_field (Ok found) c.loop-field.fields left) c.in-Ok-Some.field-0-is c.in-Ok-Some.ensures in
    record {
      faults = first-behind_item (faults_of_field sample_shape) field left.items (kinds_of_fault left.fault) (first (faults_in sample_shape c.args.sample.now)) (sym c.in_ok-kind-in-Ok-Some.ensures.fault ∙ c.in_default.is)
          (subst (λ (fields : Left WireField). first (flat_map (faults_of_field sample_shape) fields.items ++ kinds_of_fault fields.fault) ≡ first (faults_in sample_shape c.args.sample.now)) read c.loop-field.invariant.faults);
      ids = gathered-item (repeated_from 1) field left.items _ _ _ c.in_ok-kind-in-Ok-Some.ensures.ids
          (subst (λ (fields : Left WireField). c.loop-field.ids.items ++ flat_map (repeated_from 1) fields.items ≡ c.args.ids.now.items ++ repeated_numbers 1 c.args.sample.now) read c.loop-field.invariant.ids);
      values = gathered-item (repeated_from 2) field left.items _ _ _ c.in_ok-kind-in-Ok-Some.ensures.values
          (subst (λ (fields : Left WireField). c.loop-field.values.items ++ flat_map (repeated_from 2) fields.items ≡ c.args.values.now.items ++ repeated_numbers 2 c.args.sample.now) read c.loop-field.invariant.values);
    }

pub returns-in_err-kind-in-Ok-Some : goal.returns-in_err-kind-in-Ok-Some
returns-in_err-kind-in-Ok-Some c = record {
  fault = IfOk-from_err _ _ c.from_residual.ensures.0;
  ids = IfOk-from_err _ _ c.from_residual.ensures.0;
  values = IfOk-from_err _ _ c.from_residual.ensures.0;
}
