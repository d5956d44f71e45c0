-- What is left of a text at some line, by the counts of what stands before it.
use Rattle.std.specs.Prelude.{◌≤◌, ℕ, ◌+◌, nat_lt, if◌then◌else◌, List, [], ◌∷◌}
use Rattle.stack_core.specs.Reading.{Rest}
use Rattle.sample_tables.specs.Samples.{IsLimited}
use Rattle.sample_tables.specs.declared.samples.TheConstants.{WEIGHT_LIMIT}
use Rattle.sample_tables.specs.declared.samples.Sample.{Sample as StackSample}
use Rattle.stack_core.specs.declared.endings.ReadKind.TheVariants.{TotalTooLarge}
use Rattle.stack_core.specs.declared.endings.SourceEnd.{SourceEnd}
use Rattle.stack_core.specs.declared.endings.SourceEnd.TheVariants as ends
use Rattle.folded_lines.specs.Line.{Line}
use Rattle.folded_lines.specs.Line.{Ignored, Fault, Sample}
use Rattle.folded_lines.specs.declared.cursor.Cursor.{Cursor}
use Rattle.folded_lines.specs.Lines.{read_line}

-- a line after weights that add up to the total
abbrev pub within_total : ℕ → Line → Line
within_total total Ignored = Ignored
within_total total (Fault kind) = Fault kind
within_total total (Sample sample) =
    if nat_lt WEIGHT_LIMIT (total + sample.weight) then Fault TotalTooLarge else Sample sample

-- nothing is left
abbrev pub ended : SourceEnd → Rest
ended ending = record { samples = []; ending = ending }

abbrev pub followed_by : StackSample → Rest → Rest
followed_by sample rest = record { samples = sample ∷ rest.samples; ending = rest.ending }

-- what is left after so many lines, of which so many are ignored, and weights of that total
abbrev pub scan : ℕ → ℕ → ℕ → List (List ℕ) → Rest
scan taken ignored total [] = ended (ends.Clean ignored)
scan taken ignored total (line ∷ lines) =
    elim (within_total total (read_line line)) [
      | Ignored ↦ scan (taken + 1) (ignored + 1) total lines
      | Fault kind ↦ ended (ends.Fault (record { kind = kind; at = taken + 1 }))
      | Sample sample ↦ followed_by sample (scan (taken + 1) ignored (total + sample.weight) lines)
    ]

-- the counts after a line
abbrev pub place_after : Cursor → Line → Cursor
place_after cursor Ignored =
    record { taken = cursor.taken + 1; ignored = cursor.ignored + 1; total = cursor.total }
place_after cursor (Fault kind) =
    record { taken = cursor.taken + 1; ignored = cursor.ignored; total = cursor.total }
place_after cursor (Sample sample) =
    record { taken = cursor.taken + 1; ignored = cursor.ignored; total = cursor.total + sample.weight }

-- what is left at a line, by what is left after it
abbrev pub rest_from : Cursor → Line → Rest → Rest
rest_from cursor Ignored after = after
rest_from cursor (Fault kind) after = ended (ends.Fault (record { kind = kind; at = cursor.taken + 1 }))
rest_from cursor (Sample sample) after = followed_by sample after

-- a sample keeps the limits, and so does the total with it
abbrev pub IsWithin : ℕ → Line → Type 0
IsWithin total Ignored = Unit {0}
IsWithin total (Fault kind) = Unit {0}
IsWithin total (Sample sample) = IsLimited sample × (total + sample.weight ≤ WEIGHT_LIMIT)
