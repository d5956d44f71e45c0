use Rattle.std.proofs.Common.{◌≡◌, ◌∙◌, List, Option, ap, subst, sym, ℕ}
use Rattle.std.specs.Prelude.{option_map}
use Rattle.run_options.specs.declared.formats.Format.{Format}
use Rattle.run_options.specs.declared.formats.Format.TheVariants.{Folded}
use Rattle.stack_core.specs.Reading.{Rest}
use Rattle.source_lists.specs.Sources.{known_input, whole_rest}
use Rattle.source_lists.specs.checked.Inputs.{seen_content}
use Rattle.source_lists.specs.checked.PartRuns.{AreOfParts}
use Rattle.source_lists.proofs.PartLemmas.{text_whole}
use Rattle.source_lists.proofs.part_runs.part_readers.Goals as goal

pub returns-in_ok-stored_readers-in-Text : goal.returns-in_ok-stored_readers-in-Text
returns-in_ok-stored_readers-in-Text c =
    let options = c.args.options.now in
    let readers = c.in_ok-stored_readers-in-Text.field-0.items in
    let same : (Folded, c.in-Text.text) ≡ c.args.input.now = ap seen_content (sym c.in-Text.is) ∙ c.content.ensures in
    subst (λ (whole : Option Rest). AreOfParts whole readers) (text_whole options c.in-Text.text ∙ ap (λ (input : Format × Option (List ℕ)). option_map (whole_rest options) (known_input input)) same)
    c.in_ok-stored_readers-in-Text.ensures
