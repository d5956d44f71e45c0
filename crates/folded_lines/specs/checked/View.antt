-- The state of a reader of samples, by its fields.
use Rattle.stack_core.specs.RowSamples.{is_at_end, left_with}
use Rattle.folded_lines.specs.State.{State}
use Rattle.folded_lines.specs.declared.reader.FoldedReader.TheInside.{Inside}

abbrev pub reader_state : Inside → State
reader_state inside =
    let naming = inside.naming in
    record {
      rest = left_with naming.reader.told.names naming.samples.awaited naming.reader.rest;
      has_ended = is_at_end naming.samples.awaited;
      told = naming.reader.told;
    }
