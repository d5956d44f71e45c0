-- The texts of a list are those of the samples of which it is the table.
use Rattle.std.proofs.Common.{◌≡◌, ℕ, Bool, List, None, length, take, sym}
use Rattle.sample_tables.specs.Samples.{total_weight}
use Rattle.sample_tables.specs.declared.samples.Sample.{Sample}
use Rattle.run_options.specs.declared.orders.FunctionOrder.{FunctionOrder as Order}
use Rattle.function_sums.specs.FunctionSums.{AreFunctionSums}
use Rattle.function_sums.specs.declared.sums.FunctionSum.{FunctionSum}
use Rattle.function_sums.proofs.FunctionList.{listed_alone}
use Rattle.function_sums.specs.FunctionJson.{functions_line}
use Rattle.function_sums.specs.FunctionTable.{functions_table}
use Rattle.function_sums.specs.Told.{Told}
use Rattle.function_sums.specs.TopTexts.{top_table, top_line}

module _ (told : Told) (rows whole : ℕ) (sums : List FunctionSum) (by : Order) (samples : List Sample) (are : AreFunctionSums by samples sums) (weight : total_weight samples ≡ whole) where
  pub table_of_samples : (is_exact : Bool) → functions_table is_exact told (length sums) whole (take rows sums) ≡ top_table is_exact told by rows samples
  table_of_samples is_exact = λ i. functions_table is_exact told (length (listed_alone by samples sums are i)) (sym weight i) (take rows (listed_alone by samples sums are i))

  pub line_of_samples : functions_line None told whole (take rows sums) ≡ top_line told by rows samples
  line_of_samples = λ i. functions_line None told (sym weight i) (take rows (listed_alone by samples sums are i))
