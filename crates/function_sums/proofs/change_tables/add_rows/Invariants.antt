-- the rows so far
use Rattle.std.proofs.Common.{◌≡◌, ◌++◌, All, List, map, take}
use Rattle.sample_tables.specs.declared.samples.Sample.{Sample}
use Rattle.function_sums.specs.checked.Sides.{AreSides, HasSize, row_name}
use Rattle.function_sums.proofs.change_tables.add_rows.Given as goal

abbrev pub invariant-loop-sum : goal.invariant-loop-sum
invariant-loop-sum l = record {
  names : map row_name l.rows.items ≡ map row_name l.fn.rows.items ++ map (λ sum. sum.name) (take l.sum-index l.sums);
  sizes : (before after : List Sample) → AreSides before after l.sides → All (HasSize l.by before after) l.fn.rows.items → All (HasSize l.by before after) l.rows.items;
}
