use Rattle.std.proofs.Common.{arith}
use Rattle.std.specs.Prelude.{option_map}
use Rattle.std.proofs.lemmas.Result.{IfOk-weaker}
use Rattle.folded_lines.specs.Reading.{read_folded}
use Rattle.source_lists.specs.checked.InputReaders.{stream_gives}
use Rattle.source_lists.specs.checked.PartRuns.{AreOfParts}
use Rattle.source_lists.specs.declared.input_readers.InputReader.TheVariants.{Text}
use Rattle.source_lists.proofs.PartLemmas.{readers_of_parts, stored_parts}
use Rattle.source_lists.proofs.part_runs.stored_readers.Goals as goal

pub returns : goal.returns
returns c =
    let text = c.args.text.now in
    let parts = c.in_ok-parts in
    IfOk-weaker c.as_inputs.result _ (λ readers. AreOfParts (option_map read_folded text) readers.items)
    (λ readers zip. readers_of_parts Text (option_map read_folded text) parts.field-0.items readers.items zip (omega (arith, parts.ensures.count, c.reader_count-count.ensures.few)) parts.ensures.told parts.ensures.possible
    (stored_parts stream_gives parts.field-0.items text parts.ensures.parts parts.ensures.limits)) c.as_inputs.ensures
