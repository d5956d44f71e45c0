-- The tables of functions, and of their changes, as one list.
use Rattle.std.specs.Prelude.{ℕ, List, ◌++◌, map}
use Rattle.std.specs.List.{flat_map}
use Rattle.sample_tables.specs.declared.samples.Sample.{Sample}
use Rattle.merged_stacks.specs.Timeline.{drawn}
use Rattle.function_sums.specs.declared.changes.ChangeOrder.{ChangeOrder}
use Rattle.function_sums.specs.declared.changes.FunctionChange.{FunctionChange}
use Rattle.function_sums.specs.declared.sums.FunctionSum.{FunctionSum}
use Rattle.run_options.specs.declared.orders.FunctionOrder.{FunctionOrder as Order}
use Rattle.function_sums.specs.FunctionChanges.{change_cmp, change_of}
use Rattle.function_sums.specs.FunctionSums.{sums_of, sum_cmp}
use Rattle.function_sums.specs.Tables.{put_in_order}

-- the names of the frames of all samples with weight
abbrev pub names_in : List Sample → List (List ℕ)
names_in samples = flat_map (λ sample. sample.stack) (drawn samples)

-- the sums of each of these names, in order
unfoldable pub functions_of : Order → List Sample → List FunctionSum
functions_of by samples = put_in_order (sum_cmp by) (map (sums_of samples) (names_in samples))

-- the changes of the names of both sides, in order
unfoldable pub changes_of : ChangeOrder → List Sample → List Sample → List FunctionChange
changes_of by before after = put_in_order (change_cmp by) (map (change_of before after) (names_in before ++ names_in after))
