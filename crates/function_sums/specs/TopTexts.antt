-- The texts of the heaviest functions of some samples.
use Rattle.std.specs.Prelude.{ℕ, Bool, List, length, take, None}
use Rattle.sample_tables.specs.Samples.{total_weight}
use Rattle.sample_tables.specs.declared.samples.Sample.{Sample}
use Rattle.function_sums.specs.FunctionList.{functions_of}
use Rattle.function_sums.specs.declared.sums.FunctionSum.{FunctionSum}
use Rattle.run_options.specs.declared.orders.FunctionOrder.{FunctionOrder as Order}
use Rattle.function_sums.specs.FunctionJson.{functions_line}
use Rattle.function_sums.specs.FunctionTable.{functions_table}
use Rattle.function_sums.specs.Told.{Told}

-- the first functions in the order, so many
abbrev pub top_functions : Order → ℕ → List Sample → List FunctionSum
top_functions by rows samples = take rows (functions_of by samples)

-- their table
abbrev pub top_table : Bool → Told → Order → ℕ → List Sample → List ℕ
top_table is_exact told by rows samples =
    functions_table is_exact told (length (functions_of by samples)) (total_weight samples) (top_functions by rows samples)

-- and their line of JSON
abbrev pub top_line : Told → Order → ℕ → List Sample → List ℕ
top_line told by rows samples = functions_line None told (total_weight samples) (top_functions by rows samples)
