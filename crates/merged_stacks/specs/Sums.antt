-- Stacks that are kept by the numbers of their names, each as one sample with the sum of its samples.
use Rattle.std.specs.Prelude.{◌≡◌, ℕ, List, [], ◌∷◌}
use Rattle.sample_tables.specs.declared.samples.Sample.{Sample}
use Rattle.sample_tables.specs.Rows.{named}
use Rattle.merged_stacks.specs.Timeline.{Stack, total_weight}
use Rattle.merged_stacks.specs.Merged.{weighed, sum_at}

abbrev pub kept_samples : List (List ℕ) → List (List ℕ) → List ℕ → List Sample
kept_samples told [] sums = []
kept_samples told (frames ∷ stacks) [] = []
kept_samples told (frames ∷ stacks) (sum ∷ sums) = named told (record { frames = frames; weight = sum }) ∷ kept_samples told stacks sums

-- the samples have the same sums, stack by stack and together
pub record HaveSameSums (one other : List Sample) : Type 0 where
  pub sums : (stack : Stack) → sum_at (weighed one) stack ≡ sum_at (weighed other) stack
  pub total : total_weight one ≡ total_weight other
