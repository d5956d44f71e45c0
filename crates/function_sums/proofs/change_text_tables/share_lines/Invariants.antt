-- the headings, and the lines so far
use Rattle.std.proofs.Common.{◌≡◌, ◌∷◌, ℕ, Bool, List, map, take}
use Rattle.function_sums.specs.ChangeTable.{share_headings, share_line}
use Rattle.function_sums.specs.checked.Entries.{line_of}
use Rattle.function_sums.proofs.change_text_tables.share_lines.Given as goal

abbrev pub invariant-loop-change : goal.invariant-loop-change
invariant-loop-change l = (is_exact : Bool) (unit : List ℕ)
    → map (line_of is_exact unit) l.lines.items ≡ share_headings ∷ map (share_line l.whole) (take l.change-index l.changes)
