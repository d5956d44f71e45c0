use Rattle.std.proofs.Common.{◌≡◌, IfSome, List, Some, subst, ℕ}
use Rattle.run_options.specs.declared.formats.Format.{Format}
use Rattle.source_lists.specs.Sources.{whole_rest}
use Rattle.source_lists.specs.checked.PartRuns.{AreOfParts}
use Rattle.source_lists.proofs.PartLemmas.{profile_parts}
use Rattle.source_lists.proofs.part_runs.profile_readers.Goals as goal

pub returns : goal.returns
returns c =
    let options = c.args.options.now in
    let text = c.args.text.now in
    let bytes = c.in-Some.bytes.items in
    let readers = c.in_ok-loaded_readers.field-0.items in
    let known : IfSome text (λ all. bytes ≡ all) = rw c.in-Some.is at c.in_ok-bytes.ensures in
    profile_parts text options bytes readers known
    (subst (λ (source : Format × List ℕ). AreOfParts (Some (whole_rest options source)) readers) c.in_ok-source.ensures c.in_ok-loaded_readers.ensures)
