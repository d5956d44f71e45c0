-- How folded text reads: the samples before the first fault, and how it ends.
use Rattle.std.specs.Prelude.{ℕ, ◌+◌, Bool, true, false, ◌==◌, ◌&&◌, nat_lt, if◌then◌else◌, List, [], ◌∷◌, ◌++◌, length, map, Option, Some, None, slice_index, sum_by, count_by}
use Rattle.stack_core.specs.Reading.{Rest}
use Rattle.sample_tables.specs.declared.samples.TheConstants.{WEIGHT_LIMIT}
use Rattle.sample_tables.specs.declared.samples.Sample.{Sample as StackSample}
use Rattle.stack_core.specs.declared.endings.ReadKind.{ReadKind}
use Rattle.stack_core.specs.declared.endings.ReadKind.TheVariants.{Compressed, TotalTooLarge}
use Rattle.stack_core.specs.declared.endings.SourceEnd.TheVariants as ends
use Rattle.folded_lines.specs.Line.{Line}
use Rattle.folded_lines.specs.Line.{Ignored, Fault, Sample}
use Rattle.folded_lines.specs.Lines.{text_lines, read_line}

-- the samples among some lines
abbrev pub samples_of : List Line → List StackSample
samples_of [] = []
samples_of (Ignored ∷ lines) = samples_of lines
samples_of (Fault kind ∷ lines) = samples_of lines
samples_of (Sample sample ∷ lines) = sample ∷ samples_of lines

abbrev pub is_ignored : Line → Bool
is_ignored Ignored = true
is_ignored (Fault kind) = false
is_ignored (Sample sample) = false

abbrev pub total_weight : List StackSample → ℕ
total_weight samples = sum_by (λ sample. sample.weight) samples

-- what is wrong with a line that stands after these
abbrev pub fault_after : List Line → Line → Option ReadKind
fault_after before Ignored = None
fault_after before (Fault kind) = Some kind
fault_after before (Sample sample) =
    if nat_lt WEIGHT_LIMIT (total_weight (samples_of before) + sample.weight) then Some TotalTooLarge else None

-- lines that all were read
abbrev pub whole : List Line → Rest
whole lines = record { samples = samples_of lines; ending = ends.Clean (count_by is_ignored lines) }

-- lines of which the next is the first with a fault
abbrev pub cut_short : List Line → ReadKind → Rest
cut_short lines kind = record { samples = samples_of lines; ending = ends.Fault (record { kind = kind; at = length lines + 1 }) }

-- lines, where those before them have no fault
abbrev pub read_after : List Line → List Line → Rest
read_after before [] = whole before
read_after before (line ∷ lines) =
    elim (fault_after before line) [ None ↦ read_after (before ++ line ∷ []) lines | Some kind ↦ cut_short before kind ]

-- the bytes begin as gzip does
abbrev pub begins_compressed : List ℕ → Bool
begins_compressed bytes = slice_index bytes 0 == 0x1f && slice_index bytes 1 == 0x8b

abbrev pub read_folded : List ℕ → Rest
read_folded bytes = if begins_compressed bytes then cut_short [] Compressed
    else read_after [] (map read_line (text_lines bytes))
