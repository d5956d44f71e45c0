-- The texts of a function and its callers, or its callees, in some samples.
use Rattle.std.specs.Prelude.{ℕ, Bool, List, ◌∷◌, length, take, Some}
use Rattle.sample_tables.specs.declared.samples.Sample.{Sample}
use Rattle.function_sums.specs.Calls.{calls_of}
use Rattle.function_sums.specs.FunctionSums.{sums_of, total_of}
use Rattle.function_sums.specs.declared.call_sides.CallSide.{CallSide}
use Rattle.function_sums.specs.declared.sums.FunctionSum.{FunctionSum}
use Rattle.function_sums.specs.FunctionJson.{functions_line}
use Rattle.function_sums.specs.FunctionTable.{listed_table}
use Rattle.function_sums.specs.Told.{Told}

-- the first of the callers, or the callees, so many
abbrev pub first_calls : CallSide → List ℕ → ℕ → List Sample → List FunctionSum
first_calls side name rows samples = take rows (calls_of side name samples)

-- the table of the function and these: each weight with what part it is of the function's total
abbrev pub calls_table : Bool → Told → CallSide → List ℕ → ℕ → List Sample → List ℕ
calls_table is_exact told side name rows samples =
    listed_table is_exact told side (length (calls_of side name samples)) (sums_of samples name) (first_calls side name rows samples)

-- and their line of JSON
abbrev pub calls_line : Told → CallSide → List ℕ → ℕ → List Sample → List ℕ
calls_line told side name rows samples =
    functions_line (Some side) told (total_of name samples) (sums_of samples name ∷ first_calls side name rows samples)
