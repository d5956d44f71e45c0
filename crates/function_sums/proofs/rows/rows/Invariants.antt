use Rattle.std.proofs.Common.{◌≡◌, ℕ, List, [], All, map, take}
use Rattle.sample_tables.specs.declared.samples.Sample.{Sample}
use Rattle.function_sums.specs.FunctionSums.{weight_of}
use Rattle.function_sums.specs.checked.Counted.{AreCounts, names_with_weight, sums_by}
use Rattle.function_sums.specs.checked.Rows.{row_sum}
use Rattle.function_sums.proofs.rows.rows.Given as goal

abbrev pub invariant-loop-rank : goal.invariant-loop-rank
invariant-loop-rank l = record {
  keys : All (λ row. row.0.0 ≡ weight_of l.by (row_sum row)) l.rows.items;
  sums : (lasts samples : List Sample) (stamp : ℕ) → AreCounts l.merged.names l.counts lasts samples [] 0 stamp → map row_sum l.rows.items ≡ map (sums_by lasts samples) (names_with_weight samples (take l.rank l.merged.names));
}
