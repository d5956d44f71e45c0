use Rattle.std.proofs.Common.{List, refl, map, take, drop}
use Rattle.std.specs.Arc.{arc_value}
use Rattle.profile_messages.specs.Message.{Content}
use Rattle.profile_messages.specs.Offsets.{found_at}
use Rattle.profile_tables.specs.checked.SeenOutline.{seen_outline}
use Rattle.profile_tables.proofs.RestLemmas.{read-limited}
use Rattle.profile_tables.proofs.UnstoppedLemmas.{unstopped-read_samples}
use Rattle.profile_tables.proofs.row_reader.PprofRows.of_part.Goals as goal

pub returns-clause-reader : goal.returns-clause-reader
returns-clause-reader c =
    let outline = arc_value c.args.part.outline in
    let samples : List Content = map (found_at c.args.bytes) (drop c.args.given (take c.args.part.past outline.samples.items)) in
    record {
      told = refl;
      chosen_type = refl;
      limits = read-limited (seen_outline outline) samples;
      unstopped = unstopped-read_samples (seen_outline outline) 0 samples;
    }
