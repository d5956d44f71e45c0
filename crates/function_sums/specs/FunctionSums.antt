-- The weights by function: by the name that a frame has.
use Rattle.std.specs.Prelude.{ℕ, ◌-◌, Bool, ◌&&◌, List, length, sum_by, nat_lt, if◌then◌else◌}
use Rattle.std.specs.List.{list_any}
use Rattle.std.specs.Str.{bytes_eq}
use Rattle.std.specs.declared.cmp.Ordering.{Ordering}
use Rattle.std.specs.Ordering.{nat_cmp, ordering_then}
use Rattle.std.specs.Cmp.Lexicographic.{slice_cmp}
use Rattle.sample_tables.specs.declared.samples.Sample.{Sample}
use Rattle.sample_tables.specs.Rows.{name_at}
use Rattle.merged_stacks.specs.Timeline.{Stack}
use Rattle.function_sums.specs.declared.sums.FunctionSum.{FunctionSum}
use Rattle.function_sums.specs.Tables.{IsTable}
use Rattle.run_options.specs.declared.orders.FunctionOrder.{FunctionOrder as Order}
use Rattle.run_options.specs.declared.orders.FunctionOrder.TheVariants.{Own, Total}

-- whether a frame of the stack has the name, and whether its last frame has it
abbrev pub stands_in : List ℕ → Stack → Bool
stands_in name stack = list_any (bytes_eq name) stack

abbrev pub ends : List ℕ → Stack → Bool
ends name stack = nat_lt 0 (length stack) && bytes_eq name (name_at stack (length stack - 1))

-- the weight of the samples that end in the function, and of those in whose stack it stands: a sample counts once,
-- however often the name stands in it
abbrev pub own_of : List ℕ → List Sample → ℕ
own_of name samples = sum_by (λ sample. if ends name sample.stack then sample.weight else 0) samples

abbrev pub total_of : List ℕ → List Sample → ℕ
total_of name samples = sum_by (λ sample. if stands_in name sample.stack then sample.weight else 0) samples

abbrev pub sums_of : List Sample → List ℕ → FunctionSum
sums_of samples name = record { name = name; own = own_of name samples; total = total_of name samples }

-- the heavier first, and of the same weight the one whose name is lower, by its bytes
abbrev pub weight_of : Order → FunctionSum → ℕ
weight_of Own sum = sum.own
weight_of Total sum = sum.total

abbrev pub sum_cmp : Order → FunctionSum → FunctionSum → Ordering
sum_cmp by one other = ordering_then (nat_cmp (weight_of by other) (weight_of by one)) (slice_cmp nat_cmp one.name other.name)

-- the table of the functions: the sums of each name that stands in a sample with weight, in order
abbrev pub AreFunctionSums : Order → List Sample → List FunctionSum → Type 0
AreFunctionSums by samples = IsTable (sum_cmp by) (λ sum. sum.name) (sums_of samples) (λ name. total_of name samples)
