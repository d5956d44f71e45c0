-- Samples of which the weights of equal stacks are summed.
use Rattle.std.specs.Prelude.{◌≡◌, ◌*◌, ℕ, Bool, true, false, List, sum_by}
use Rattle.sample_tables.specs.declared.samples.Sample.{Sample}
use Rattle.merged_stacks.specs.Timeline.{Stack}
use Rattle.stack_core.specs.Reading.{Rest}

-- whatever number each stack has, the weights of the samples times the numbers of their stacks have the same sum
abbrev pub WeighAlike : List Sample → List Sample → Type 0
WeighAlike one other =
    (number : Stack → ℕ) → sum_by (λ sample. number sample.stack * sample.weight) one ≡ sum_by (λ sample. number sample.stack * sample.weight) other

-- what was found of a source weighs like its samples, and has its ending
pub record IsSummed (rest found : Rest) : Type 0 where
  pub samples : WeighAlike found.samples rest.samples
  pub ending : found.ending ≡ rest.ending

-- what was found of a source: its samples, or, where they are summed, others that weigh like them
abbrev pub IsFound : Bool → Rest → Rest → Type 0
IsFound false rest found = found ≡ rest
IsFound true rest found = IsSummed rest found
