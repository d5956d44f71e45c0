use Rattle.std.specs.Prelude.{◌≤◌, ℕ, List, length, sum_by}
use Rattle.sample_tables.specs.declared.samples.Sample.{Sample}
use Rattle.sample_tables.specs.declared.samples.TheConstants.{FRAME_LIMIT, WEIGHT_LIMIT}

-- at most 4,096 names, and a weight of at most 2^56-1
pub record IsLimited (sample : Sample) : Type 0 where
  pub depth : length sample.stack ≤ FRAME_LIMIT
  pub weight : sample.weight ≤ WEIGHT_LIMIT

-- the sum of the weights
abbrev pub total_weight : List Sample → ℕ
total_weight samples = sum_by (λ sample. sample.weight) samples
