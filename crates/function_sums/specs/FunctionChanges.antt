-- How the weights of functions change from one side to the other.
use Rattle.std.specs.Prelude.{ℕ, ◌+◌, ◌*◌, List, Option, None, Some, max}
use Rattle.std.specs.Int.{abs_diff}
use Rattle.std.specs.declared.cmp.Ordering.{Ordering}
use Rattle.std.specs.Ordering.{nat_cmp, ordering_then}
use Rattle.std.specs.Cmp.Lexicographic.{slice_cmp}
use Rattle.sample_tables.specs.declared.samples.Sample.{Sample}
use Rattle.function_sums.specs.declared.changes.Change.{Change}
use Rattle.function_sums.specs.declared.changes.ChangeOrder.{ChangeOrder}
use Rattle.function_sums.specs.declared.changes.FunctionChange.{FunctionChange}
use Rattle.function_sums.specs.FunctionSums.{own_of, total_of}
use Rattle.function_sums.specs.Tables.{IsTable}
use Rattle.run_options.specs.declared.orders.FunctionOrder.{FunctionOrder as Order}
use Rattle.run_options.specs.declared.orders.FunctionOrder.TheVariants.{Own, Total}

-- what a function weighs on either side
abbrev pub change_of : List Sample → List Sample → List ℕ → FunctionChange
change_of before after name = record {
  name = name;
  own = record { before = own_of name before; after = own_of name after };
  total = record { before = total_of name before; after = total_of name after };
}

-- what shares divide by: of nothing, each part is nothing
abbrev pub divisor : ℕ → ℕ
divisor whole = max whole 1

-- the weights of both sides, each times what the other side divides by: they compare as the shares do, and each pair has the same
-- multiple of them
abbrev pub share_before : Change → Change → ℕ
share_before whole change = change.before * divisor whole.after

abbrev pub share_after : Change → Change → ℕ
share_after whole change = change.after * divisor whole.before

-- how much more or less there is: of the weights, or of the shares of what both sides weigh
abbrev pub size : Option Change → Change → ℕ
size None change = abs_diff change.before change.after
size (Some whole) change = abs_diff (share_before whole change) (share_after whole change)

abbrev pub change_by : Order → FunctionChange → Change
change_by Own change = change.own
change_by Total change = change.total

abbrev pub size_of : ChangeOrder → FunctionChange → ℕ
size_of by change = size by.whole (change_by by.by change)

-- the greater change first, whether up or down, and of the same size the one whose name is lower, by its bytes
abbrev pub change_cmp : ChangeOrder → FunctionChange → FunctionChange → Ordering
change_cmp by one other = ordering_then (nat_cmp (size_of by other) (size_of by one)) (slice_cmp nat_cmp one.name other.name)

-- the table of the changes: what each name that stands in a sample with weight of either side weighs on both, in order
abbrev pub AreFunctionChanges : ChangeOrder → List Sample → List Sample → List FunctionChange → Type 0
AreFunctionChanges by before after =
    IsTable (change_cmp by) (λ change. change.name) (change_of before after) (λ name. total_of name before + total_of name after)
