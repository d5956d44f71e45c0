-- What is kept of samples that were merged by rows.
use Rattle.std.specs.Prelude.{◌≡◌, ℕ, ◌<◌, ◌^◌, List, length}
use Rattle.std.specs.List.{AllByRecursion}
use Rattle.sample_tables.specs.declared.samples.Sample.{Sample}
use Rattle.call_tree.specs.Listing.{AreIn}
use Rattle.merged_stacks.specs.Timeline.{total_weight}
use Rattle.merged_stacks.specs.Sums.{HaveSameSums}
use Rattle.merging.specs.Snapshots.{samples_of_pairs}

-- there is a sum for each stack, and each number of a stack has a name
pub record AreSummed (names stacks : List (List ℕ)) (sums : List ℕ) : Type 0 where
  pub len : length sums ≡ length stacks
  pub known : AllByRecursion (AreIn names) stacks

-- the stacks have the sums of the pairs, which weigh so much together
pub record AreMergedPairs (stacks : List Sample) (total : ℕ) (pairs : List (ℕ × Sample)) : Type 0 where
  pub same : HaveSameSums stacks (samples_of_pairs pairs)
  pub total_is : total ≡ total_weight (samples_of_pairs pairs)
  pub fits : total < 2 ^ 64
