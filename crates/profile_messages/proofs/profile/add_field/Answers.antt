use Rattle.std.proofs.lemmas.Result.{IfOk-from_err}
use Rattle.std.proofs.Common.{None, refl, sym, ap, subst, rules}
use Rattle.wire_fields.specs.Field.{WireField, seen_value}
use Rattle.profile_messages.specs.declared.profile.Profile.{Profile}
use Rattle.profile_messages.specs.checked.Decoding.{IsLocationDecoded, IsLocationOf}
use Rattle.profile_messages.specs.checked.Fields.{IsFieldAdded}
use Rattle.profile_messages.proofs.ProfileLemmas.{location_added}
use Rattle.profile_messages.proofs.profile.add_field.Goals as goal

pub returns-in_ok-push-in-Ok-2 : goal.returns-in_ok-push-in-Ok-2
returns-in_ok-push-in-Ok-2 c =
    let old = c.args.profile.now in
    let new : Profile = record {
      sample_types = old.sample_types;
      samples = old.samples;
      locations = c.push-in-Ok-2.new.self;
      lines = c.decode_location.new.lines;
      functions = old.functions;
      strings = old.strings;
      default = old.default;
    } in
    let message = c.in-4-Bytes.message.now in
    let decoded : IsLocationOf c.args.field.at message old.lines.items new.lines.items c.in-Ok-2.location =
    subst (λ found. IsLocationDecoded c.args.field.at message old.lines.items new.lines.items found) c.in-Ok-2.is c.in_ok-location-in-4-Bytes.ensures in
    subst (λ (field : WireField). IsFieldAdded field old new None)
    (λ i. record { number = sym c.in-4-Bytes.is-0 i; at = c.args.field.at; value = ap seen_value (sym c.in-4-Bytes.is-1) i })
    (location_added c.args.field.at message old new c.in-Ok-2.location decoded c.in_ok-push-in-Ok-2.ensures.items refl refl refl refl refl)

pub returns-in_err-push-in-Ok : goal.returns-in_err-push-in-Ok
returns-in_err-push-in-Ok c = IfOk-from_err _ _ c.from_residual.ensures.0

pub returns-in_err-push-in-2-Bytes : goal.returns-in_err-push-in-2-Bytes
returns-in_err-push-in-2-Bytes c = IfOk-from_err _ _ c.from_residual-in_err-push-in-2-Bytes.ensures.0

pub returns-in_err-location-in-4-Bytes : goal.returns-in_err-location-in-4-Bytes
returns-in_err-location-in-4-Bytes c = IfOk-from_err _ _ c.from_residual-in_err-location-in-4-Bytes.ensures.0

pub returns-in_err-push-in-Ok-2 : goal.returns-in_err-push-in-Ok-2
returns-in_err-push-in-Ok-2 c = IfOk-from_err _ _ c.from_residual-in_err-push-in-Ok-2.ensures.0

pub returns-in_err-push-in-6-Bytes : goal.returns-in_err-push-in-6-Bytes
returns-in_err-push-in-6-Bytes c = IfOk-from_err _ _ c.from_residual-in_err-push-in-6-Bytes.ensures.0

pub returns-in-1-default : goal.returns-in-1-default
returns-in-1-default c = search rules

pub returns-in-1-default-2 : goal.returns-in-1-default-2
returns-in-1-default-2 c = search rules

pub returns-in-1-default-3 : goal.returns-in-1-default-3
returns-in-1-default-3 c = search rules

pub returns-in-1-default-4 : goal.returns-in-1-default-4
returns-in-1-default-4 c = search rules

pub returns-in-1-default-5 : goal.returns-in-1-default-5
returns-in-1-default-5 c = search rules

pub returns-in-1-default-6 : goal.returns-in-1-default-6
returns-in-1-default-6 c = search rules

pub returns-in_default : goal.returns-in_default
returns-in_default c = search rules

pub returns-in-Err : goal.returns-in-Err
returns-in-Err c = search rules

pub returns-in_err-push-in-Ok-decode_function : goal.returns-in_err-push-in-Ok-decode_function
returns-in_err-push-in-Ok-decode_function c = IfOk-from_err _ _ c.from_residual-in_err-push-in-Ok-decode_function.ensures.0
