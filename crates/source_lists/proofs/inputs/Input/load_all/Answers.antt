use Rattle.std.proofs.Common.{◌≡◌, ◌+◌, ◌∙◌, ◌++◌, ◌∷◌, [], IfSome, List, Option, ap, arith, length, map, subst, sym, ℕ}
use Rattle.std.specs.List.{AllZip}
use Rattle.std.specs.Vec.Iter.{into_iter_items}
use Rattle.std.proofs.lemmas.Iterator.Adapters.{YieldsList-from_vec}
use Rattle.std.proofs.lemmas.Iterator.Consumers.{YieldsList-end}
use Rattle.std.proofs.lemmas.List.{map-id}
use Rattle.ring_collect.proofs.RunningSourceLemmas.{taken_fewer}
use Rattle.run_options.specs.declared.formats.Format.{Format}
use Rattle.source_lists.specs.Sources.{known_input, known_inputs}
use Rattle.source_lists.proofs.FaultLemmas.{handed_on}
use Rattle.source_lists.proofs.KnownInputs.{found_all, if_some, zip_count, zip_push}
use Rattle.source_lists.proofs.inputs.Input.load_all.Goals as goal

pub returns-in_err-source-clause-err : goal.returns-in_err-source-clause-err
returns-in_err-source-clause-err c =
    let all = c.into_iter-input-iterator.result in
    let yielded = c.loop-input.yielded in
    let fewer = taken_fewer all yielded c.loop-input.input-iterator c.loop-input.yielded_by c.in-Some.input _ c.in-Some.ensures.steps.0 in
    let gives : into_iter_items all ≡ c.args.inputs.items = c.into_iter-input-iterator.ensures.into_iter_gives.0 in
    let count = zip_count (λ input source. IfSome (known_input input) (λ known. source ≡ known)) yielded c.loop-input.sources.items c.loop-input.invariant in
    handed_on c.from_residual-in_err-source.result (c.len-in-loop-input.result + 1) (length c.args.inputs.items) c.in_err-source.field-0.0 c.from_residual-in_err-source.ensures.1
    (omega (arith, count, fewer, ap length gives, c.len-in-loop-input.ensures)) c.in_err-source.ensures.err

pub loop-input-preserved : goal.loop-input-preserved
loop-input-preserved c =
    let loaded : Format × Option (List ℕ) → Format × List ℕ → Type 0 = λ input source. IfSome (known_input input) (λ known. source ≡ known) in
    let yielded = c.loop-input.yielded in
    let sources = c.loop-input.sources.items in
    subst (λ (sources : List (Format × List ℕ)). AllZip loaded (yielded ++ c.in-Some.input ∷ []) sources) (sym c.in-Ok.ensures.items)
    (zip_push loaded yielded sources c.in-Some.input c.in_ok-source.source c.loop-input.invariant c.in_ok-source.ensures.loaded)

pub returns-clause-sources : goal.returns-clause-sources
returns-clause-sources c =
    let loaded : Format × Option (List ℕ) → Format × List ℕ → Type 0 = λ input source. IfSome (known_input input) (λ known. source ≡ known) in
    let inputs = c.args.inputs.items in
    let sources = c.loop-input.sources.items in
    let gives = c.into_iter-input-iterator.ensures.into_iter_gives in
    let seen = YieldsList-end (YieldsList-from_vec inputs gives.0 (omega arith)) c.loop-input.yielded c.loop-input.input-iterator c.loop-input.yielded_by c.next.result c.next.new.self c.in-None.is c.next.ensures.steps in
    let all : c.loop-input.yielded ≡ inputs = sym (map-id c.loop-input.yielded) ∙ seen.0 in
    if_some (known_inputs inputs) (λ known. sources ≡ map (λ (source : Format × List ℕ). source) known) (λ known. sources ≡ known) (λ known same. same ∙ map-id known)
    (found_all known_input (λ source. source) inputs sources (subst (λ (inputs : List (Format × Option (List ℕ))). AllZip loaded inputs sources) all c.loop-input.invariant))

pub returns-clause-count : goal.returns-clause-count
returns-clause-count c =
    let inputs = c.args.inputs.items in
    let gives = c.into_iter-input-iterator.ensures.into_iter_gives in
    let seen = YieldsList-end (YieldsList-from_vec inputs gives.0 (omega arith)) c.loop-input.yielded c.loop-input.input-iterator c.loop-input.yielded_by c.next.result c.next.new.self c.in-None.is c.next.ensures.steps in
    let all : c.loop-input.yielded ≡ inputs = sym (map-id c.loop-input.yielded) ∙ seen.0 in
    zip_count (λ input source. IfSome (known_input input) (λ known. source ≡ known)) c.loop-input.yielded c.loop-input.sources.items c.loop-input.invariant ∙ ap length all
