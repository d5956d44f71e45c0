-- What the samples of a profile are read with, in the definitions' terms.
use Rattle.profile_tables.specs.declared.outline.Outline.{Outline}
use Rattle.profile_tables.specs.Samples.{SampleTables}
use Rattle.profile_tables.specs.checked.Frames.{frames_at}

abbrev pub seen_outline : Outline → SampleTables
seen_outline outline = record { sample_types = outline.sample_types; chosen = outline.chosen; frames = frames_at outline.frames }
