use Rattle.std.proofs.Common.{◌≡◌, ◌∙◌, IfOk, subst, sym}
use Rattle.run_options.specs.declared.formats.Format.TheVariants.{Pprof}
use Rattle.profile_messages.specs.declared.types.SampleType.{SampleType}
use Rattle.source_lists.specs.Types.{type_of_bytes}
use Rattle.source_lists.proofs.source_types.type_of_source.Goals as goal

pub returns-in-Pprof : goal.returns-in-Pprof
returns-in-Pprof c =
    let source = c.args.source.now in
    let pick = c.args.pick.now in
    let same : type_of_bytes Pprof c.as_slice.result.now pick ≡ type_of_bytes source.0 source.1 pick =
    λ i. type_of_bytes ((sym c.in-Pprof.is ∙ c.format.ensures) i) ((c.as_slice.ensures ∙ c.bytes.ensures) i) pick in
    subst (λ (wanted : SampleType). IfOk c.type_of_profile.result (λ found. found ≡ wanted)) same c.type_of_profile.ensures
