use Rattle.std.proofs.Common.{◌≡◌, ◌∙◌, ◌↔◌, ◌⊎◌, false, List, Option, ap, subst, sym, ℕ}
use Rattle.folded_lines.specs.Streams.{StreamGives}
use Rattle.stack_core.specs.Reading.{Rest}
use Rattle.run_options.specs.declared.choices.Pick.{Pick}
use Rattle.run_options.specs.declared.formats.Format.{Format}
use Rattle.source_lists.specs.checked.InputReaders.{IsReaderOf, stream_gives}
use Rattle.source_lists.specs.checked.Inputs.{seen_content}
use Rattle.source_lists.specs.checked.StoredProfiles.{ReadsSome, nothing_read, profile_gives}
use Rattle.source_lists.specs.declared.input_readers.InputReader.TheVariants.{Loaded, Text, Profile}
use Rattle.source_lists.proofs.InputLemmas.{loaded_reader, profile_reader, text_reader}
use Rattle.source_lists.proofs.input_readers.InputReader.over.Goals as goal

pub returns-in_ok-reader-in-Loaded : goal.returns-in_ok-reader-in-Loaded
returns-in_ok-reader-in-Loaded c =
    let options = c.args.options.now in
    let over = c.in_ok-reader-in-Loaded.ensures in
    subst (λ (input : Format × Option (List ℕ)). IsReaderOf options input (Loaded c.in_ok-reader-in-Loaded.reader)) (ap seen_content (sym c.in-Loaded.is) ∙ c.into_content.ensures)
    (loaded_reader options c.in-Loaded.source c.in_ok-reader-in-Loaded.reader over.told over.rest over.limits)

pub returns-in_ok-whole-in-Text : goal.returns-in_ok-whole-in-Text
returns-in_ok-whole-in-Text c =
    let options = c.args.options.now in
    let reader = c.over-reader.result in
    subst (λ (input : Format × Option (List ℕ)). IsReaderOf options input (Text reader)) (ap seen_content (sym c.in-Text.is) ∙ c.into_content.ensures)
    (text_reader options c.in-Text.text reader c.over-reader.ensures.told
    (subst (λ (text : Option (List ℕ)). (rest : Rest) → stream_gives reader rest ↔ StreamGives text false rest) c.in_ok-whole-in-Text.ensures c.over-reader.ensures.gives))

pub returns-in_ok-pick-in-Profile : goal.returns-in_ok-pick-in-Profile
returns-in_ok-pick-in-Profile c =
    let options = c.args.options.now in
    let text = c.in-Profile.text in
    let reader = c.over-reader-in-Profile.result in
    subst (λ (input : Format × Option (List ℕ)). IsReaderOf options input (Profile reader)) (ap seen_content (sym c.in-Profile.is) ∙ c.into_content.ensures)
    (profile_reader options text reader c.over-reader-in-Profile.ensures.told
    (subst (λ (pick : Pick). (rest : Rest) → profile_gives reader rest ↔ (rest ≡ nothing_read) ⊎ ReadsSome text pick options.naming rest) c.in_ok-pick-in-Profile.ensures c.over-reader-in-Profile.ensures.gives))
