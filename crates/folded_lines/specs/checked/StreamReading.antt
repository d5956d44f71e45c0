-- What a reader of a stream may still give.
use Rattle.std.specs.Prelude.{ℕ, ◌+◌, ◌-◌, ◌==◌, ◌&&◌, Bool, true, false, not, if◌then◌else◌, List, [], length}
use Rattle.stack_core.specs.Reading.{Rest}
use Rattle.stack_core.specs.declared.endings.ReadKind.TheVariants.{Compressed}
use Rattle.folded_lines.specs.Line.{Line}
use Rattle.folded_lines.specs.Line.{Fault}
use Rattle.folded_lines.specs.Lines.{text_lines, read_line}
use Rattle.folded_lines.specs.Reading.{begins_compressed, cut_short}
use Rattle.folded_lines.specs.Streams.{Coming, ending_at_failure}
use Rattle.folded_lines.specs.StrictStreams.{has_ignored, up_to_ignored}
use Rattle.folded_lines.specs.declared.cursor.Cursor.{Cursor}
use Rattle.folded_lines.specs.checked.Scanning.{scan, within_total}

-- whether compressed bytes would be seen there: before the first line
abbrev pub is_compressed_at : Cursor → List ℕ → Bool
is_compressed_at counts bytes = counts.taken == 0 && begins_compressed bytes

-- what the next line is
abbrev pub line_at : Cursor → List ℕ → Line
line_at counts line = if is_compressed_at counts line then Fault Compressed else within_total counts.total (read_line line)

-- the lines that are read: strictly none behind the first that is ignored
abbrev pub lines_read : Bool → List (List ℕ) → List (List ℕ)
lines_read false lines = lines
lines_read true lines = up_to_ignored lines

-- what the bytes from there on give
abbrev pub rest_of_bytes : Bool → Cursor → List ℕ → Rest
rest_of_bytes is_strict counts bytes = if is_compressed_at counts bytes then cut_short [] Compressed
    else scan counts.taken counts.ignored counts.total (lines_read is_strict (text_lines bytes))

-- samples that follow so many others, up to a read that fails
abbrev pub up_to_failure : ℕ → Rest → Rest
up_to_failure before rest = record { samples = rest.samples; ending = ending_at_failure (before + length rest.samples) rest.ending }

abbrev pub rest_up_to : Bool → ℕ → Rest → Rest
rest_up_to fails before rest = if fails then up_to_failure before rest else rest

-- whether a read fails before the end
abbrev pub is_cut : Bool → Bool → List (List ℕ) → Bool
is_cut false fails lines = fails
is_cut true fails lines = fails && not (has_ignored lines)

-- what is left where this comes
abbrev pub rest_of : Bool → Cursor → Coming → Rest
rest_of is_strict counts coming =
    rest_up_to (is_cut is_strict coming.fails (text_lines coming.bytes)) (counts.taken - counts.ignored)
    (rest_of_bytes is_strict counts coming.bytes)
