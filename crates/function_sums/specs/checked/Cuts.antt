-- The samples of which the names are counted: all frames of theirs, or those beside a name.
use Rattle.std.specs.Prelude.{List, Option, None, Some}
use Rattle.sample_tables.specs.declared.samples.Sample.{Sample}
use Rattle.function_sums.specs.Calls.{ending_beside, with_beside}
use Rattle.function_sums.specs.FunctionSums.{sum_cmp, total_of}
use Rattle.function_sums.specs.Tables.{IsTable}
use Rattle.function_sums.specs.checked.Counted.{sums_by}
use Rattle.function_sums.specs.declared.calls.Call.{Call}
use Rattle.function_sums.specs.declared.sums.FunctionSum.{FunctionSum}
use Rattle.run_options.specs.declared.orders.FunctionOrder.{FunctionOrder as Order}

-- whose last frames count as own weight
abbrev pub lasts_of : Option Call → List Sample → List Sample
lasts_of None samples = samples
lasts_of (Some call) samples = ending_beside call.side call.name.now samples

-- all of whose frames count
abbrev pub counted_of : Option Call → List Sample → List Sample
counted_of None samples = samples
counted_of (Some call) samples = with_beside call.side call.name.now samples

-- the table of the names that are counted
abbrev pub AreCut : Option Call → Order → List Sample → List FunctionSum → Type 0
AreCut call by samples =
    IsTable (sum_cmp by) (λ sum. sum.name) (sums_by (lasts_of call samples) (counted_of call samples)) (λ name. total_of name (counted_of call samples))
