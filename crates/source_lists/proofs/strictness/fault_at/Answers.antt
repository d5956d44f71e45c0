use Rattle.std.proofs.Common.{◌≡◌, ◌∙◌, ap, IfSome, List, Option, Some, None, subst, sym, ℕ}
use Rattle.std.specs.Prelude.{slice_get}
use Rattle.std.proofs.lemmas.Option.{slice_get-get_or}
use Rattle.stack_core.specs.Ledgers.{ListState}
use Rattle.run_options.specs.declared.formats.Format.{Format}
use Rattle.source_lists.specs.Sources.{known_input}
use Rattle.source_lists.specs.checked.StrictEndings.{HasFault}
use Rattle.source_lists.proofs.StrictLemmas.{loaded_fault, sound_fault}
use Rattle.source_lists.proofs.strictness.fault_at.Goals as goal

pub returns-then-is_sound : goal.returns-then-is_sound
returns-then-is_sound c =
    let lists = c.args.lists.now in
    let list = c.in-Some.list.now in
    let found : slice_get lists c.args.at ≡ Some list = slice_get-get_or lists c.args.at list c.in-Some.ensures.lookup.3.0 ∙ ap Some (sym (c.in-Some.ensures.lookup.3.1 list)) in
    subst (λ (found : Option ListState). HasFault c.args.input.now found None) (sym found) (sound_fault c.args.input.now list (c.is_sound.ensures c.if-is_sound.true))

pub returns : goal.returns
returns c =
    let input = c.args.input.now in
    let lists = c.args.lists.now in
    let list = c.in-Some.list.now in
    let source = c.in_ok-source.source in
    let found : slice_get lists c.args.at ≡ Some list = slice_get-get_or lists c.args.at list c.in-Some.ensures.lookup.3.0 ∙ ap Some (sym (c.in-Some.ensures.lookup.3.1 list)) in
    let loaded = subst (λ (input : Format × Option (List ℕ)). IfSome (known_input input) (λ known. source ≡ known)) c.in_ok-share.ensures c.in_ok-source.ensures.loaded in
    subst (λ (found : Option ListState). HasFault input found c.fault_of.result) (sym found)
    (loaded_fault input list source c.fault_of.result loaded (λ options ends. c.fault_of.ensures options (c.ending.ensures ∙ ends)))
