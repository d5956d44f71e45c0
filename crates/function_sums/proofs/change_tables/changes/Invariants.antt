-- the changes of the rows so far
use Rattle.std.proofs.Common.{◌≡◌, List, map, take}
use Rattle.sample_tables.specs.declared.samples.Sample.{Sample}
use Rattle.function_sums.specs.FunctionChanges.{change_of}
use Rattle.function_sums.specs.checked.Sides.{AreSides, row_name}
use Rattle.function_sums.proofs.change_tables.changes.Given as goal

abbrev pub invariant-loop-row : goal.invariant-loop-row
invariant-loop-row l =
    (before after : List Sample) → AreSides before after l.sides → l.changes.items ≡ map (λ row. change_of before after (row_name row)) (take l.row-index l.rows)
