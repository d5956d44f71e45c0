-- What is wrong with a source where each of its lines has to be a stack and a count, and a sample has to be there.
use Rattle.std.specs.Prelude.{ℕ, List, length, Option, Some, None}
use Rattle.stack_core.specs.Reading.{Rest}
use Rattle.folded_lines.specs.StrictReading.{fault_of_ending, fault_without, strict_fault}
use Rattle.folded_lines.specs.declared.strictness.StrictFault.{StrictFault}
use Rattle.run_options.specs.declared.choices.Naming.{Naming}
use Rattle.run_options.specs.declared.choices.Pick.{Pick}
use Rattle.run_options.specs.declared.formats.Format.{Format}
use Rattle.run_options.specs.declared.formats.Format.TheVariants.{Folded, Pprof}
use Rattle.run_options.specs.declared.options.Options.{Options}
use Rattle.profile_tables.specs.Samples.{read_pprof}

-- the fault in which a reading ended, or else that it has no samples, which is told at a place
abbrev pub fault_of_rest : ℕ → Rest → Option StrictFault
fault_of_rest at rest = elim (fault_of_ending rest.ending) [ None ↦ fault_without at rest.samples | Some fault ↦ Some fault ]

-- the first fault of bytes of a format; that a profile has no samples is told at its length
abbrev pub strict_fault_in : Format → List ℕ → Pick → Naming → Option StrictFault
strict_fault_in Folded bytes pick naming = strict_fault bytes
strict_fault_in Pprof bytes pick naming = fault_of_rest (length bytes) (read_pprof bytes pick naming)

-- that of a source, whatever the filter
abbrev pub source_fault : Options → Format × List ℕ → Option StrictFault
source_fault options input = strict_fault_in input.0 input.1 options.pick options.naming
