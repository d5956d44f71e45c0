use Rattle.std.proofs.Common.{◌≡◌, ◌∙◌, ◌<◌, ◌+◌, ◌++◌, ◌∷◌, [], List, Option, ap, arith, length, subst, sym, take, ℕ}
use Rattle.std.specs.Prelude.{slice_get}
use Rattle.std.proofs.lemmas.List.{take_all, take_more}
use Rattle.run_options.specs.declared.formats.Format.{Format}
use Rattle.source_lists.specs.Sources.{known_inputs}
use Rattle.source_lists.specs.checked.StrictEndings.{HasFault, HaveFaults}
use Rattle.source_lists.proofs.StrictLemmas.{AreFaults, all_faults, fault_push, have_count, under_all}
use Rattle.source_lists.proofs.strictness.strict_faults.Goals as goal

pub loop-input-preserved : goal.loop-input-preserved
loop-input-preserved c =
    let inputs = c.args.inputs.now in
    let lists = c.args.lists.now in
    let n = c.loop-input.input-index in
    let input = c.input-item.result in
    let faults = c.loop-input.faults.items in
    let fault = c.in_ok-fault.fault in
    let within : n < length inputs = omega arith in
    let one_more = take_more inputs n input within ∙ ap (λ last. take n inputs ++ last ∷ []) (sym c.input-item.is) in
    let place : c.len.result ≡ length (take n inputs) = omega (arith, c.len.ensures, have_count (take n inputs) lists faults c.loop-input.invariant) in
    subst (HaveFaults (take (n + 1) inputs) lists) (sym c.in-Ok.ensures.items)
    (subst (λ (inputs : List (Format × Option (List ℕ))). HaveFaults inputs lists (faults ++ fault ∷ [])) (sym one_more)
    (fault_push (take n inputs) lists faults input fault c.loop-input.invariant (subst (λ at. HasFault input (slice_get lists at) fault) place c.in_ok-fault.ensures)))

pub returns : goal.returns
returns c =
    let inputs = c.args.inputs.now in
    let lists = c.args.lists.now in
    let faults = c.loop-input.faults.items in
    let all = take_all c.loop-input.input-index inputs (omega arith) in
    under_all (known_inputs inputs) (λ options. AreFaults options lists faults)
    (λ options. all_faults options inputs lists faults (subst (λ (inputs : List (Format × Option (List ℕ))). HaveFaults inputs lists faults) all c.loop-input.invariant))
