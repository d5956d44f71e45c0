-- What an input has inside.
use Rattle.std.specs.Prelude.{ℕ, List, Option, Some}
use Rattle.run_options.specs.declared.formats.Format.{Format}
use Rattle.run_options.specs.declared.formats.Format.TheVariants.{Folded, Pprof}
use Rattle.source_lists.specs.declared.inputs.Content.{Content}
use Rattle.source_lists.specs.declared.inputs.Content.TheVariants.{Loaded, Text, Profile}

-- the format, and all bytes of it where they are known
abbrev pub seen_content : Content → Format × Option (List ℕ)
seen_content (Loaded source) = (source.0, Some source.1)
seen_content (Text text) = (Folded, text)
seen_content (Profile text) = (Pprof, text)
