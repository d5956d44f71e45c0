-- The first line without a count, and which fault comes first.
use Rattle.std.specs.Prelude.{ℕ, ◌+◌, ◌==◌, nat_lt, if◌then◌else◌, Bool, false, List, [], ◌∷◌, drop, map, Option, Some, None}
use Rattle.sample_tables.specs.declared.samples.Sample.{Sample}
use Rattle.stack_core.specs.declared.endings.SourceEnd.{SourceEnd}
use Rattle.stack_core.specs.declared.endings.SourceEnd.TheVariants as ends
use Rattle.folded_lines.specs.Line.{Line}
use Rattle.folded_lines.specs.Lines.{text_lines, read_line}
use Rattle.folded_lines.specs.Reading.{is_ignored}
use Rattle.folded_lines.specs.StrictReading.{fault_without, strict_at}
use Rattle.folded_lines.specs.declared.strictness.StrictFault.{StrictFault}
use Rattle.folded_lines.specs.declared.strictness.StrictKind.TheVariants.{NoCount, NoSamples, Read}

-- the number of the first line that is ignored, where so many lines stand before these
abbrev pub first_ignored : ℕ → List Line → Option ℕ
first_ignored before [] = None
first_ignored before (line ∷ lines) = if is_ignored line then Some (before + 1) else first_ignored (before + 1) lines

abbrev pub lines_in : List ℕ → List Line
lines_in text = map read_line (text_lines text)

-- the same at a place of a text, by what the line there is and where the next one begins
abbrev pub first_from : List ℕ → Bool × ℕ → ℕ → Option ℕ
first_from bytes (is_ignored, next) before =
    if is_ignored then Some (before + 1) else first_ignored (before + 1) (lines_in (drop next bytes))

-- the fault that comes first: that of the first line that is ignored, or that in which a text ends
abbrev pub earlier : Option ℕ → SourceEnd → Option StrictFault
earlier None (ends.Clean ignored) = None
earlier None (ends.Fault fault) = Some (strict_at fault.at (Read fault.kind))
earlier None (ends.Stopped after) = None
earlier (Some number) (ends.Clean ignored) = Some (strict_at number NoCount)
earlier (Some number) (ends.Fault fault) =
    if nat_lt number fault.at then Some (strict_at number NoCount) else Some (strict_at fault.at (Read fault.kind))
earlier (Some number) (ends.Stopped after) = Some (strict_at number NoCount)

-- that fault, or else that there are no samples
abbrev pub or_without : ℕ → List Sample → Option StrictFault → Option StrictFault
or_without at samples None = fault_without at samples
or_without at samples (Some fault) = Some fault

-- what is wrong with a text of which each line is a sample: that there is none
abbrev pub fault_of_counted : List ℕ → Option StrictFault
fault_of_counted [] = Some (strict_at 0 NoSamples)
fault_of_counted (byte ∷ text) = None

-- all lines were read, and each has a count
abbrev pub is_counted : SourceEnd → Bool
is_counted (ends.Clean ignored) = ignored == 0
is_counted (ends.Fault fault) = false
is_counted (ends.Stopped after) = false
