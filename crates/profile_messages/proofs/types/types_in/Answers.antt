use Rattle.std.proofs.lemmas.Result.{IfOk-from_err}
use Rattle.std.proofs.Common.{List, ◌∙◌, ap, map}
use Rattle.profile_messages.specs.declared.message.Content.{Content}
use Rattle.profile_messages.specs.SampleTypes.{type_of}
use Rattle.profile_messages.specs.SeenProfile.{texts_of}
use Rattle.run_options.specs.declared.choices.Pick.TheVariants.{Preferred}
use Rattle.profile_messages.proofs.PickLemmas.{picked-is}
use Rattle.profile_messages.proofs.TypeLemmas.{all-types}
use Rattle.profile_messages.proofs.types.types_in.Goals as goal

pub returns-clause-types : goal.returns-clause-types
returns-clause-types c = λ file are.
    let profile = c.args.profile.now in
    all-types file profile c.of.result c.in_ok-default.default are
    (c.of.ensures ∙ c.in_ok-types.ensures
    ∙ ap (λ (strings : List Content). map (type_of (texts_of strings)) c.deref-2.result.now) c.deref.ensures.value
    ∙ ap (map (type_of (texts_of profile.strings.items))) c.deref-2.ensures.value)
    (c.in_ok-default.ensures ∙ picked-is file profile Preferred are)

pub returns-in_err-default-clause-types : goal.returns-in_err-default-clause-types
returns-in_err-default-clause-types c = IfOk-from_err _ _ c.from_residual.ensures.0

pub returns-in_err-types-clause-types : goal.returns-in_err-types-clause-types
returns-in_err-types-clause-types c = IfOk-from_err _ _ c.from_residual-in_err-types.ensures.0
