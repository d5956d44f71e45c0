-- The rows that are sorted.
use Rattle.std.specs.Prelude.{ℕ, List}
use Rattle.std.specs.declared.cmp.Reverse.{Reverse}
use denote.Ref.{Bor}
use Rattle.function_sums.specs.declared.sums.FunctionSum.{FunctionSum}

abbrev pub Row : Type 0
Row = Reverse ℕ × Bor (List ℕ) × ℕ × ℕ

-- the sums in a row
abbrev pub row_sum : Row → FunctionSum
row_sum row = record { name = row.1.now; own = row.2; total = row.3 }
