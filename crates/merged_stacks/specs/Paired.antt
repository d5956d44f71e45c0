-- The stacks of two lists of samples side by side.
use Rattle.std.specs.Prelude.{ℕ, List, [], ◌++◌, map, slice_index_or}
use Rattle.sample_tables.specs.declared.samples.Sample.{Sample}
use Rattle.merged_stacks.specs.declared.paired_sides.Side.{Side}
use Rattle.merged_stacks.specs.declared.paired_sides.Side.TheVariants.{Before, After}
use Rattle.merged_stacks.specs.Merged.{weighed, sum_at, merged}
use Rattle.merged_stacks.specs.Timeline.{Stack}

-- a stack with the sums of its samples in both lists
pub record PairedStack : Type 0 where
  pub stack : Stack
  pub before : ℕ
  pub after : ℕ

abbrev pub paired_at : List Sample → List Sample → Stack → PairedStack
paired_at before after stack = record { stack = stack; before = sum_at (weighed before) stack; after = sum_at (weighed after) stack }

-- each stack with weight in either list once, in order, with both sums
abbrev pub paired_stacks : List Sample → List Sample → List PairedStack
paired_stacks before after = map (λ row. paired_at before after row.0) (merged (weighed (before ++ after)))

-- the stack at a place
abbrev pub pair_at : List PairedStack → ℕ → PairedStack
pair_at stacks at = slice_index_or stacks at (record { stack = []; before = 0; after = 0 })

-- its sum in one of the lists
abbrev pub sum_of : Side → PairedStack → ℕ
sum_of Before pair = pair.before
sum_of After pair = pair.after

-- all stacks with the sums of one list, also those that have none there
abbrev pub side_samples : Side → List PairedStack → List Sample
side_samples side stacks = map (λ pair. record { stack = pair.stack; weight = sum_of side pair }) stacks
