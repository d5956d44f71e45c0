-- Rows of the ranks of stacks' names, by the names.
use Rattle.std.specs.Prelude.{◌≡◌, ℕ, ◌<◌, ◌≤◌, ◌^◌, List, length, map, All, sum_by, IsTrue}
use Rattle.std.specs.List.{AllByRecursion}
use Rattle.sample_tables.specs.declared.samples.Sample.{Sample}
use Rattle.sample_tables.specs.declared.samples.TheConstants.{FRAME_LIMIT}
use Rattle.sample_tables.specs.Rows.{name_at}
pub use Rattle.ranked_rows.specs.Joined.{Ranked, join_front, joined, AreAscending}
use Rattle.merged_stacks.specs.Timeline.{Stack, total_weight}
use Rattle.merged_stacks.specs.Merged.{weighed, Weighed, sum_at, are_in_order}
use Rattle.merged_stacks.specs.Order.{AreRising}

-- a row by its names
abbrev pub named_row : List (List ℕ) → Ranked → Weighed
named_row names row = (map (name_at names) row.0, row.1)

abbrev pub named_rows : List (List ℕ) → List Ranked → List Weighed
named_rows names rows = map (named_row names) rows

-- a row with weight, within the limits, whose ranks all have names
pub record IsRankedStack (names : List (List ℕ)) (row : Ranked) : Type 0 where
  pub below : All (λ rank. rank < length names) row.0
  pub depth : length row.0 ≤ FRAME_LIMIT
  pub positive : 0 < row.1

-- the ranks lead to the names that were told
pub record IsNamedBy (names : List (List ℕ)) (ranks : List ℕ) (told : List (List ℕ)) : Type 0 where
  pub below : All (λ rank. rank < length names) ranks
  pub named : map (name_at names) ranks ≡ told

-- the rows have each stack's sum
pub record HasSums (names : List (List ℕ)) (samples : List Sample) (rows : List Ranked) : Type 0 where
  pub sums : (stack : Stack) → sum_at (named_rows names rows) stack ≡ sum_at (weighed samples) stack
  pub total : sum_by (λ row. row.1) rows ≡ total_weight samples
  pub each : AllByRecursion (IsRankedStack names) rows

-- the rows are merged stacks, whose weights have 64 bits together
pub record AreMerged (names : List (List ℕ)) (rows : List Ranked) : Type 0 where
  pub rising : AreRising names
  pub each : AllByRecursion (IsRankedStack names) rows
  pub ordered : IsTrue (are_in_order (named_rows names rows))
  pub total : sum_by (λ row. row.1) rows < 2 ^ 64
