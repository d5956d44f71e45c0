-- No text ends in Stopped.
use Rattle.std.proofs.Common.{◌≢◌, ℕ, Bool, true, false, cond, Option, Some, None, List, [], ◌∷◌, ◌++◌, map, subst}
use Rattle.stack_core.specs.Reading.{Rest}
use Rattle.stack_core.specs.declared.endings.ReadKind.{ReadKind}
use Rattle.stack_core.specs.declared.endings.ReadKind.TheVariants.{Compressed}
use Rattle.stack_core.specs.declared.endings.SourceEnd.{SourceEnd}
use Rattle.stack_core.specs.declared.endings.SourceEnd.TheVariants as ends
use Rattle.folded_lines.specs.Line.{Line}
use Rattle.folded_lines.specs.Lines.{text_lines, read_line}
use Rattle.folded_lines.specs.Reading.{fault_after, cut_short, read_after, begins_compressed, read_folded}

abbrev IsUnstopped : SourceEnd → Type 0
IsUnstopped (ends.Clean ignored) = Unit {0}
IsUnstopped (ends.Fault fault) = Unit {0}
IsUnstopped (ends.Stopped after) = ⊥

-- lines behind a line with this fault, or with none
abbrev after_fault : List Line → Line → List Line → Option ReadKind → Rest
after_fault before line lines fault =
    elim fault [ None ↦ read_after (before ++ line ∷ []) lines | Some kind ↦ cut_short before kind ]

by_fault : (before : List Line) (line : Line) (lines : List Line) (fault : Option ReadKind) → ((b : List Line) → IsUnstopped (read_after b lines).ending)
    → IsUnstopped (after_fault before line lines fault).ending
by_fault before line lines None rest = rest (before ++ line ∷ [])
by_fault before line lines (Some kind) rest = tt

unstopped_after : (lines : List Line) (before : List Line) → IsUnstopped (read_after before lines).ending
unstopped_after [] before = tt
unstopped_after (line ∷ lines) before = by_fault before line lines (fault_after before line) (unstopped_after lines)

unstopped_if : (compressed : Bool) (lines : List Line) → IsUnstopped (cond compressed (cut_short [] Compressed) (read_after [] lines)).ending
unstopped_if true lines = tt
unstopped_if false lines = unstopped_after lines []

pub unstopped-read_folded : (bytes : List ℕ) (after : ℕ) → (read_folded bytes).ending ≢ ends.Stopped after
unstopped-read_folded bytes after stopped =
    subst IsUnstopped stopped (unstopped_if (begins_compressed bytes) (map read_line (text_lines bytes)))
