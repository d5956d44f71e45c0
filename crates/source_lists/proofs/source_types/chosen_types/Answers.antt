use Rattle.std.proofs.Common.{◌≡◌, ◌∙◌, ◌<◌, ◌+◌, ◌++◌, ◌∷◌, [], IfSome, List, Option, ap, arith, length, subst, sym, take, ℕ}
use Rattle.std.specs.List.{AllZip}
use Rattle.std.proofs.lemmas.List.{length-take, take_all, take_more}
use Rattle.run_options.specs.declared.formats.Format.{Format}
use Rattle.profile_messages.specs.declared.types.SampleType.{SampleType}
use Rattle.source_lists.specs.Sources.{known_input}
use Rattle.source_lists.specs.Types.{input_type}
use Rattle.source_lists.specs.declared.run_faults.RunFault.TheVariants.{Unreadable}
use Rattle.source_lists.proofs.FaultLemmas.{handed_on, said_of}
use Rattle.source_lists.proofs.KnownInputs.{found_all, zip_count, zip_push}
use Rattle.source_lists.proofs.source_types.chosen_types.Goals as goal

pub returns-in_err-found-clause-unreadable : goal.returns-in_err-found-clause-unreadable
returns-in_err-found-clause-unreadable c = λ source.
    let options = c.args.options.now in
    let inputs = c.args.inputs.now in
    let n = c.loop-input.input-index in
    let count = zip_count (λ input found. IfSome (known_input input) (λ source. found ≡ input_type options source)) (take n inputs) c.loop-input.types.items c.loop-input.invariant in
    said_of c.from_residual-in_err-found.result (length inputs) (Unreadable source)
    (handed_on c.from_residual-in_err-found.result (c.len.result + 1) (length inputs) c.in_err-found.field-0.0 c.from_residual-in_err-found.ensures.1
    (omega (arith, count, length-take n inputs, c.len.ensures)) c.in_err-found.ensures.unreadable)

pub loop-input-preserved : goal.loop-input-preserved
loop-input-preserved c =
    let options = c.args.options.now in
    let has_type : Format × Option (List ℕ) → SampleType → Type 0 = λ input found. IfSome (known_input input) (λ source. found ≡ input_type options source) in
    let inputs = c.args.inputs.now in
    let n = c.loop-input.input-index in
    let input = c.input-item.result in
    let types = c.loop-input.types.items in
    let within : n < length inputs = omega arith in
    let one_more = take_more inputs n input within ∙ ap (λ last. take n inputs ++ last ∷ []) (sym c.input-item.is) in
    subst (λ (types : List SampleType). AllZip has_type (take (n + 1) inputs) types) (sym c.in-Ok.ensures.items)
    (subst (λ (inputs : List (Format × Option (List ℕ))). AllZip has_type inputs (types ++ c.in_ok-found.found ∷ [])) (sym one_more)
    (zip_push has_type (take n inputs) types input c.in_ok-found.found c.loop-input.invariant c.in_ok-found.ensures.found))

pub returns-clause-types : goal.returns-clause-types
returns-clause-types c =
    let options = c.args.options.now in
    let types = c.loop-input.types.items in
    let has_type : Format × Option (List ℕ) → SampleType → Type 0 = λ input found. IfSome (known_input input) (λ source. found ≡ input_type options source) in
    let all = take_all c.loop-input.input-index c.args.inputs.now (omega arith) in
    found_all known_input (input_type options) c.args.inputs.now types (subst (λ (inputs : List (Format × Option (List ℕ))). AllZip has_type inputs types) all c.loop-input.invariant)
