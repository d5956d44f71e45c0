-- How folded text reads up to its first ignored line: whole, or as it comes by a stream.
use Rattle.std.specs.Prelude.{◌≡◌, ◌≢◌, ◌<◌, ◌^◌, ℕ, ◌+◌, Bool, ◌==◌, ◌&&◌, not, if◌then◌else◌, List, [], ◌∷◌, map, Option, Some, None}
use Rattle.std.specs.List.{list_any}
use Rattle.stack_core.specs.Reading.{Rest}
use Rattle.stack_core.specs.declared.endings.ReadKind.TheVariants.{Compressed}
use Rattle.stack_core.specs.declared.endings.SourceEnd.{SourceEnd}
use Rattle.stack_core.specs.declared.endings.SourceEnd.TheVariants as ends
use Rattle.folded_lines.specs.Lines.{text_lines, read_line}
use Rattle.folded_lines.specs.Reading.{is_ignored, cut_short, read_after, begins_compressed}
use Rattle.folded_lines.specs.Streams.{Coming, IsCountable, MayCome, at_failure}
use Rattle.folded_lines.specs.StrictReading.{strict_at}
use Rattle.folded_lines.specs.declared.strictness.StrictFault.{StrictFault}
use Rattle.folded_lines.specs.declared.strictness.StrictKind.TheVariants.{NoCount, NoSamples, Read}

-- the lines up to the first that is ignored, with it
abbrev pub up_to_ignored : List (List ℕ) → List (List ℕ)
up_to_ignored [] = []
up_to_ignored (line ∷ lines) = line ∷ (if is_ignored (read_line line) then [] else up_to_ignored lines)

abbrev pub has_ignored : List (List ℕ) → Bool
has_ignored lines = list_any (λ line. is_ignored (read_line line)) lines

-- how a text reads whose first ignored line ends it
abbrev pub read_strictly : List ℕ → Rest
read_strictly bytes = if begins_compressed bytes then cut_short [] Compressed
    else read_after [] (map read_line (up_to_ignored (text_lines bytes)))

-- what is wrong with it, by how many samples it gave and by its ending
abbrev pub strict_ending_fault : ℕ → SourceEnd → Option StrictFault
strict_ending_fault samples (ends.Clean ignored) =
    if not (ignored == 0) then Some (strict_at (samples + 1) NoCount)
    else (if samples == 0 then Some (strict_at 0 NoSamples) else None)
strict_ending_fault samples (ends.Fault fault) = Some (strict_at fault.at (Read fault.kind))
strict_ending_fault samples (ends.Stopped after) = None

-- the place of its fault is a number of 64 bits
abbrev pub IsTellable : ℕ → SourceEnd → Type 0
IsTellable samples (ends.Clean ignored) = ignored ≢ 0 → samples + 1 < 2 ^ 64
IsTellable samples (ends.Fault fault) = Unit {0}
IsTellable samples (ends.Stopped after) = Unit {0}

-- how what comes reads: where an ignored line ends it, no read fails behind
abbrev pub read_coming_strictly : Coming → Rest
read_coming_strictly coming =
    if coming.fails && not (has_ignored (text_lines coming.bytes)) then at_failure (read_strictly coming.bytes)
    else read_strictly coming.bytes

-- the rests that a strict reader of a stream may give before it read anything
abbrev pub StrictStreamGives : Option (List ℕ) → Bool → Rest → Type 0
StrictStreamGives known is_sure rest =
    (coming : Coming) × MayCome known is_sure [] coming × IsCountable coming × (rest ≡ read_coming_strictly coming)
