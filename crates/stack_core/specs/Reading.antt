use Rattle.std.specs.Prelude.{◌≡◌, ◌≤◌, List, [], ◌∷◌, All}
use Rattle.sample_tables.specs.Samples.{IsLimited, total_weight}
use Rattle.sample_tables.specs.declared.samples.TheConstants.{WEIGHT_LIMIT}
use Rattle.sample_tables.specs.declared.samples.Sample.{Sample}
use Rattle.stack_core.specs.declared.endings.SourceEnd.{SourceEnd}
use Rattle.stack_core.specs.declared.readers.Step.{Step}
use Rattle.stack_core.specs.declared.readers.Step.TheVariants as step

-- what a reader still has to give: samples, and the ending that follows them
pub record Rest : Type 0 where
  pub samples : List Sample
  pub ending : SourceEnd

-- a sample comes off the front, or there is none and the ending is answered, again and again
abbrev pub Steps : Rest → Step → Rest → Type 0
Steps old (step.Sample sample) new = (old.samples ≡ sample ∷ new.samples) × (new.ending ≡ old.ending)
Steps old (step.End ending) new = (old.samples ≡ []) × (old.ending ≡ ending) × (new ≡ old)

abbrev pub IsEnd : Step → Type 0
IsEnd (step.Sample sample) = ⊥
IsEnd (step.End ending) = Unit {0}

abbrev pub IsWithinLimits : Step → Type 0
IsWithinLimits (step.Sample sample) = IsLimited sample
IsWithinLimits (step.End ending) = Unit {0}

-- the samples of one source: each within the limits, and the sum of their weights too
pub record IsSourceLimited (samples : List Sample) : Type 0 where
  pub each : All IsLimited samples
  pub total : total_weight samples ≤ WEIGHT_LIMIT
