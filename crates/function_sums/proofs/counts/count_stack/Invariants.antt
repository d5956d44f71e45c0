use Rattle.std.proofs.Common.{◌≡◌, ℕ, List, [], All, length, map, take}
use Rattle.sample_tables.specs.declared.samples.Sample.{Sample}
use Rattle.sample_tables.specs.Rows.{name_at}
use Rattle.merged_stacks.specs.Order.{AreRising}
use Rattle.function_sums.specs.checked.Counted.{AreCounts, HasRoom}
use Rattle.function_sums.proofs.counts.count_stack.Given as goal

abbrev pub invariant-loop-rank : goal.invariant-loop-rank
invariant-loop-rank l = record {
  many : length l.counts ≡ length l.fn.counts;
  room : All (HasRoom l.weight l.stamp) l.counts;
  counted : (names : List (List ℕ)) (lasts done : List Sample) → AreRising names → AreCounts names l.fn.counts lasts done [] 0 l.stamp
      → AreCounts names l.counts lasts done (map (name_at names) (take l.rank-index l.ranks)) l.weight l.stamp;
}
