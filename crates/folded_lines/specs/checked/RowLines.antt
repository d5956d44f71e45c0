-- A line, read by a reader of rows, and read for itself.
use Rattle.std.specs.Prelude.{◌≡◌, ◌<◌, ◌≤◌, ℕ, List, length, take, Some, None}
use Rattle.stack_core.specs.Reading.{Rest}
use Rattle.stack_core.specs.declared.readers.RowStep.{RowStep}
use Rattle.stack_core.specs.declared.readers.RowStep.TheVariants as step
use Rattle.sample_tables.specs.Rows.{ToldRows, stack_at}
use Rattle.stack_core.specs.RowReading.{sample_by}
use Rattle.folded_lines.specs.Lines.{names_of, read_line}
use Rattle.folded_lines.specs.Line.{Line}
use Rattle.folded_lines.specs.Line as line
use Rattle.folded_lines.specs.declared.row_lines.Count.{Count}
use Rattle.folded_lines.specs.declared.row_lines.Count.TheVariants as count
use Rattle.folded_lines.specs.declared.row_lines.RowLine.{RowLine}
use Rattle.folded_lines.specs.declared.row_lines.RowLine.TheVariants as row
use Rattle.folded_lines.specs.checked.Scanning.{within_total, ended}
use Rattle.folded_lines.specs.checked.Telling.{head_fault, TellsStack}

-- the line of a stack and a weight
abbrev pub line_of_stack : List (List ℕ) → ℕ → Line
line_of_stack stack weight = line.Sample (record { stack = stack; weight = weight })

-- the line of a head and a weight
abbrev pub line_of_head : List ℕ → ℕ → Line
line_of_head head weight = elim (head_fault head) [
  | None ↦ line_of_stack (names_of head) weight
  | Some kind ↦ line.Fault kind
]

-- what stands at the end of a line: a weight that is refused may be another that is refused
abbrev pub IsCountOf : List ℕ → Count → Type 0
IsCountOf text count.Ignored = read_line text ≡ line.Ignored
IsCountOf text (count.Fault kind) = read_line text ≡ line.Fault kind
IsCountOf text (count.Weight head weight) = (head ≤ length text)
    × ((total : ℕ) → within_total total (read_line text) ≡ within_total total (line_of_head (take head text) weight))

-- the line that a reader of rows gives
abbrev pub line_by : ToldRows → RowLine → Line
line_by told row.Ignored = line.Ignored
line_by told (row.Fault kind) = line.Fault kind
line_by told (row.New names frames weight) = line.Sample (sample_by told.names frames weight)
line_by told (row.Again number weight) = line.Sample (sample_by told.names (stack_at told.stacks number) weight)

-- what it tells with the line
abbrev pub TellsLine : ToldRows → RowLine → ToldRows → Type 0
TellsLine told row.Ignored told' = told' ≡ told
TellsLine told (row.Fault kind) told' = told' ≡ told
TellsLine told (row.New names frames weight) told' =
    (stack : List (List ℕ)) × TellsStack stack told names frames told'
TellsLine told (row.Again number weight) told' = (number < length told.stacks) × (told' ≡ told)

-- the weight of a line, where it has one
abbrev pub weight_by : RowLine → ℕ
weight_by row.Ignored = 0
weight_by (row.Fault kind) = 0
weight_by (row.New names frames weight) = weight
weight_by (row.Again number weight) = weight

-- what is left after a step: an ending stays
abbrev pub left_after : RowStep → Rest → Rest
left_after (step.New names frames weight) after = after
left_after (step.Again number weight) after = after
left_after (step.End ending) after = ended ending
