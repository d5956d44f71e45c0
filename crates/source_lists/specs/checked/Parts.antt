-- The parts of a source.
use Rattle.std.specs.Prelude.{◌≡◌, ◌≤◌, ℕ, List, All, Option, IfSome, sum_by}
use Rattle.sample_tables.specs.Samples.{total_weight}
use Rattle.sample_tables.specs.declared.samples.TheConstants.{WEIGHT_LIMIT}
use Rattle.stack_core.specs.Parts.{IsClean, ignored_of, joined, samples_of_parts}
use Rattle.stack_core.specs.Reading.{IsSourceLimited, Rest}

-- how many lines all parts ignored
abbrev pub ignored_by : List Rest → ℕ
ignored_by parts = sum_by (λ part. ignored_of part.ending) parts

-- no part has a fault, and they don't weigh too much together; they ignored so many lines
pub record AreCleanParts (parts : List Rest) (ignored : ℕ) : Type 0 where
  pub clean : All IsClean parts
  pub weight : total_weight (samples_of_parts parts) ≤ WEIGHT_LIMIT
  pub ignored_is : ignored ≡ ignored_by parts

-- they are those of a source, one after another: of all that it stands for, where that is known
pub record ArePartsOf (whole : Option Rest) (parts : List Rest) (ignored : ℕ) : Type 0 where
  pub whole_is : IfSome whole (λ whole. whole ≡ joined parts)
  pub ignored_is : ignored ≡ ignored_by parts
  pub limited : IsSourceLimited (samples_of_parts parts)
