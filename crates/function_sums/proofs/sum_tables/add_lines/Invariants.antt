-- the lines so far, and those of the functions that are left
use Rattle.std.proofs.Common.{◌≡◌, ◌++◌, Bool, drop, map}
use Rattle.function_sums.specs.FunctionTable.{function_lines}
use Rattle.function_sums.specs.Told.{Told}
use Rattle.function_sums.specs.checked.Entries.{line_of}
use Rattle.function_sums.proofs.sum_tables.add_lines.Given as goal

abbrev pub invariant-loop-sum : goal.invariant-loop-sum
invariant-loop-sum l = (is_exact : Bool) (told : Told) → told.whole ≡ l.parts.all
    → map (line_of is_exact told.unit) l.lines.items ++ function_lines is_exact told l.parts.whole l.until (drop l.sum-index l.sums)
    ≡ map (line_of is_exact told.unit) l.fn.lines.items ++ function_lines is_exact told l.parts.whole l.initial.until l.sums
