-- What is left of a text at some line, step by step.
use Rattle.std.proofs.Common.{◌≡◌, ℕ, ◌+◌, ◌-◌, ◌<◌, ◌≤◌, List, [], ◌∷◌, length, map, take, drop, take_all, length-drop, refl, ap, arith}
use Rattle.bstr.specs.Text.{line_len, without_terminator}
use Rattle.bstr.proofs.lemmas.LineLemmas.{line_len-bounds, lines-step, lines-nil}
use Rattle.stack_core.specs.Reading.{Rest}
use Rattle.stack_core.specs.declared.endings.SourceEnd.TheVariants as ends
use Rattle.folded_lines.specs.Line.{Line}
use Rattle.folded_lines.specs.Line.{Ignored, Fault, Sample}
use Rattle.folded_lines.specs.declared.cursor.Cursor.{Cursor}
use Rattle.folded_lines.specs.Lines.{text_lines, read_line}
use Rattle.folded_lines.specs.checked.Scanning.{within_total, ended, followed_by, scan, place_after, rest_from}

-- what is left at a line that reads so
abbrev pub scan_line : ℕ → ℕ → ℕ → List (List ℕ) → Line → Rest
scan_line taken ignored total lines read =
    elim read [
      | Ignored ↦ scan (taken + 1) (ignored + 1) total lines
      | Fault kind ↦ ended (ends.Fault (record { kind = kind; at = taken + 1 }))
      | Sample sample ↦ followed_by sample (scan (taken + 1) ignored (total + sample.weight) lines)
    ]

abbrev scan_at : Cursor → List (List ℕ) → Line → Rest
scan_at cursor lines read = scan_line cursor.taken cursor.ignored cursor.total lines read

pub scan_by : (cursor : Cursor) (line : List ℕ) (lines : List (List ℕ)) (read : Line) → within_total cursor.total (read_line line) ≡ read
    → scan cursor.taken cursor.ignored cursor.total (line ∷ lines)
    ≡ rest_from cursor read (scan (place_after cursor read).taken (place_after cursor read).ignored (place_after cursor read).total lines)
scan_by cursor line lines Ignored is = ap (scan_at cursor lines) is
scan_by cursor line lines (Fault kind) is = ap (scan_at cursor lines) is
scan_by cursor line lines (Sample sample) is = ap (scan_at cursor lines) is

pub text_lines-none : text_lines [] ≡ []
text_lines-none = ap (map without_terminator) lines-nil

pub text_lines-step : (bytes : List ℕ) → 0 < length bytes → text_lines bytes ≡ without_terminator (take (line_len bytes) bytes) ∷ text_lines (drop (line_len bytes) bytes)
text_lines-step bytes some = ap (map without_terminator) (lines-step bytes some)

pub taken_after : (cursor : Cursor) (read : Line) → (place_after cursor read).taken ≡ cursor.taken + 1
taken_after cursor Ignored = refl
taken_after cursor (Fault kind) = refl
taken_after cursor (Sample sample) = refl

-- what stands from a place on
pub left-whole : (bytes : List ℕ) (place : ℕ) → take (length bytes - place) (drop place bytes) ≡ drop place bytes
left-whole bytes place = take_all _ _ (omega (arith, length-drop place bytes))

pub line_len-fits : (bytes : List ℕ) (place : ℕ) → place < length bytes → (0 < line_len (drop place bytes)) × (place + line_len (drop place bytes) ≤ length bytes)
line_len-fits bytes place some =
    let long = length-drop place bytes in
    let bounds = line_len-bounds (drop place bytes) (omega arith) in
    (bounds.0, omega arith)
