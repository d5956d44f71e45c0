-- How folded text reads where each of its lines has to be a stack and a count, and one has to be there.
use Rattle.std.specs.Prelude.{ℕ, ◌+◌, if◌then◌else◌, List, [], ◌∷◌, ◌++◌, length, map, Option, Some, None, option_map, codes}
use Rattle.stack_core.specs.Faults.{kind_text}
use Rattle.sample_tables.specs.declared.samples.Sample.{Sample}
use Rattle.stack_core.specs.declared.endings.ReadKind.TheVariants.{Compressed}
use Rattle.stack_core.specs.declared.endings.SourceEnd.{SourceEnd}
use Rattle.stack_core.specs.declared.endings.SourceEnd.TheVariants as ends
use Rattle.folded_lines.specs.Line.{Line}
use Rattle.folded_lines.specs.Lines.{text_lines, read_line}
use Rattle.folded_lines.specs.Reading.{samples_of, is_ignored, fault_after, begins_compressed}
use Rattle.folded_lines.specs.declared.strictness.StrictFault.{StrictFault}
use Rattle.folded_lines.specs.declared.strictness.StrictKind.{StrictKind}
use Rattle.folded_lines.specs.declared.strictness.StrictKind.TheVariants.{NoCount, NoSamples, Read}

abbrev pub strict_at : ℕ → StrictKind → StrictFault
strict_at at kind = record { kind = kind; at = at }

-- the fault of samples that were all read up to here: there has to be one
abbrev pub fault_without : ℕ → List Sample → Option StrictFault
fault_without at [] = Some (strict_at at NoSamples)
fault_without at (sample ∷ samples) = None

-- what is wrong with a line that stands after these
abbrev pub strict_kind_after : List Line → Line → Option StrictKind
strict_kind_after before line = if is_ignored line then Some NoCount else option_map Read (fault_after before line)

-- the first fault of lines, where those before them have none
abbrev pub strict_fault_after : List Line → List Line → Option StrictFault
strict_fault_after before [] = fault_without (length before) (samples_of before)
strict_fault_after before (line ∷ lines) =
    elim (strict_kind_after before line) [ None ↦ strict_fault_after (before ++ line ∷ []) lines | Some kind ↦ Some (strict_at (length before + 1) kind) ]

-- the first fault of a text; without one its samples are those that it has however it is read
abbrev pub strict_fault : List ℕ → Option StrictFault
strict_fault bytes = if begins_compressed bytes then Some (strict_at 1 (Read Compressed))
    else strict_fault_after [] (map read_line (text_lines bytes))

-- the fault in which a reading that is not strict ended
abbrev pub fault_of_ending : SourceEnd → Option StrictFault
fault_of_ending (ends.Clean ignored) = None
fault_of_ending (ends.Fault fault) = Some (strict_at fault.at (Read fault.kind))
fault_of_ending (ends.Stopped after) = None

-- the name of what is wrong
abbrev pub strict_kind_text : StrictKind → List ℕ
strict_kind_text NoCount = codes "NoCount"
strict_kind_text NoSamples = codes "NoSamples"
strict_kind_text (Read kind) = kind_text kind
