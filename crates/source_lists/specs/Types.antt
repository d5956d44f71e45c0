-- The sample type whose values are the weights of a source.
use Rattle.std.specs.Prelude.{ℕ, List, [], Option, Some, None, map}
use Rattle.run_options.specs.declared.choices.Pick.{Pick}
use Rattle.run_options.specs.declared.formats.Format.{Format}
use Rattle.run_options.specs.declared.formats.Format.TheVariants.{Folded, Pprof}
use Rattle.run_options.specs.declared.options.Options.{Options}
use Rattle.stack_core.specs.declared.endings.ReadFault.{ReadFault}
use Rattle.profile_messages.specs.declared.types.SampleType.{SampleType}
use Rattle.profile_messages.specs.Message.{first}
use Rattle.profile_messages.specs.FileFaults.{file_faults}
use Rattle.profile_messages.specs.SampleTypes.{chosen_type}

-- the type of a source that has none
abbrev pub no_type : SampleType
no_type = record { name = []; unit = [] }

abbrev pub type_or_none : Option SampleType → SampleType
type_or_none (Some found) = found
type_or_none None = no_type

-- a profile with a fault before its samples has none
abbrev pub type_without : Option ReadFault → Option SampleType → SampleType
type_without (Some fault) chosen = no_type
type_without None chosen = type_or_none chosen

-- folded text has none
abbrev pub type_of_bytes : Format → List ℕ → Pick → SampleType
type_of_bytes Folded bytes pick = no_type
type_of_bytes Pprof bytes pick = type_without (first (file_faults bytes pick)) (chosen_type bytes pick)

abbrev pub input_type : Options → Format × List ℕ → SampleType
input_type options input = type_of_bytes input.0 input.1 options.pick

-- the same of each
abbrev pub types_of : Options → List (Format × List ℕ) → List SampleType
types_of options inputs = map (input_type options) inputs
