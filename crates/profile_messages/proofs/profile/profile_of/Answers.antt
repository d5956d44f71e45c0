use Rattle.std.proofs.lemmas.Result.{IfOk-from_err}
use Rattle.std.proofs.Common.{◌≡◌, ◌++◌, Option, Some, None, Ok, refl, ap, subst}
use Rattle.std.specs.Prelude.{flat_map}
use Rattle.stack_core.specs.declared.endings.ReadKind.{ReadKind}
use Rattle.wire_fields.specs.Field.{WireField, seen_field}
use Rattle.wire_fields.specs.Reading.{Left, Answers}
use Rattle.wire_fields.specs.declared.field.Field.{Field}
use Rattle.profile_messages.specs.Message.{first}
use Rattle.profile_messages.specs.Shapes.{faults_of_top_field, faults_behind, field_faults}
use Rattle.profile_messages.specs.checked.Fields.{IsFieldAdded}
use Rattle.profile_messages.proofs.ProfileLemmas.{IsProfileBefore, before-none, before-step, faults-step, profile-whole}
use Rattle.profile_messages.proofs.profile.profile_of.Goals as goal

pub loop-field-init : goal.loop-field-init
loop-field-init c = record {
  faults = ap (λ (left : Left WireField). first (flat_map faults_of_top_field left.items ++ faults_behind left.fault)) c.over-fields.ensures.exact;
  before = before-none c.args.file.now _ c.over-fields.result.items (ap (λ (left : Left WireField). left.items) c.over-fields.ensures.exact) c.new.ensures.items c.new-2.ensures.items c.new-3.ensures.items c.new-5.ensures.items c.new-6.ensures.items refl;
}

pub loop-field-preserved : goal.loop-field-preserved
loop-field-preserved c =
    let field = seen_field c.in-Ok-Some.field in
    let read : Answers seen_field (Ok (Some c.in-Ok-Some.field)) c.loop-field.fields c.next.new.self =
    subst (λ (found : Option Field). Answers seen_field (Ok found) c.loop-field.fields c.next.new.self) c.in-Ok-Some.field-0-is c.in-Ok-Some.ensures in
    let added : IsFieldAdded field c.loop-field.profile c.add_field.new.profile None =
    subst (λ (fault : Option ReadKind). IsFieldAdded field c.loop-field.profile c.add_field.new.profile fault) c.in_default.is c.in_ok-kind-in-Ok-Some.ensures in
    record {
      faults = faults-step field c.next.new.self.items (faults_behind c.next.new.self.fault) (first (field_faults c.args.file.now)) added.0
          (subst (λ (left : Left WireField). first (flat_map faults_of_top_field left.items ++ faults_behind left.fault) ≡ first (field_faults c.args.file.now)) read c.loop-field.invariant.faults);
      before = before-step c.args.file.now field c.next.new.self.items _ _ added.1
          (subst (λ (left : Left WireField). IsProfileBefore c.args.file.now left.items c.loop-field.profile) read c.loop-field.invariant.before);
    }

pub returns-in-Ok-None-clause-profile : goal.returns-in-Ok-None-clause-profile
returns-in-Ok-None-clause-profile c =
    let ended : Answers seen_field (Ok None) c.loop-field.fields c.next.new.self =
    subst (λ (found : Option Field). Answers seen_field (Ok found) c.loop-field.fields c.next.new.self) c.in-Ok-None.field-0-is c.in-Ok-None.ensures in
    profile-whole c.args.file.now c.loop-field.profile
    (subst (λ (left : Left WireField). IsProfileBefore c.args.file.now left.items c.loop-field.profile) ended.0 c.loop-field.invariant.before)

pub returns-in_err-kind-in-Ok-Some-clause-profile : goal.returns-in_err-kind-in-Ok-Some-clause-profile
returns-in_err-kind-in-Ok-Some-clause-profile c = IfOk-from_err _ _ c.from_residual.ensures.0

pub returns-in_err-kind-in-Ok-Some-clause-faultless : goal.returns-in_err-kind-in-Ok-Some-clause-faultless
returns-in_err-kind-in-Ok-Some-clause-faultless c = IfOk-from_err _ _ c.from_residual.ensures.0
