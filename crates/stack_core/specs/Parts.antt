-- A source that is read in parts, each by a reader of its own.
use Rattle.std.specs.Prelude.{◌≡◌, ◌≤◌, ℕ, List, All, flat_map, sum_by}
use Rattle.sample_tables.specs.Samples.{total_weight}
use Rattle.sample_tables.specs.declared.samples.TheConstants.{WEIGHT_LIMIT}
use Rattle.sample_tables.specs.declared.samples.Sample.{Sample}
use Rattle.stack_core.specs.Reading.{Rest}
use Rattle.stack_core.specs.declared.endings.SourceEnd.{SourceEnd}
use Rattle.stack_core.specs.declared.endings.SourceEnd.TheVariants.{Clean, Fault, Stopped}
use Rattle.stack_core.specs.declared.source_bytes.SourceBytes.{SourceBytes}
use Rattle.stack_core.specs.declared.source_bytes.SourceBytes.TheVariants.{Own, Shared}

abbrev pub bytes_of : SourceBytes → List ℕ
bytes_of (Own bytes) = bytes.items
bytes_of (Shared bytes) = bytes

-- how many lines were ignored
abbrev pub ignored_of : SourceEnd → ℕ
ignored_of (Clean ignored) = ignored
ignored_of (Fault fault) = 0
ignored_of (Stopped after) = 0

-- it has no fault
abbrev pub IsClean : Rest → Type 0
IsClean rest = (ignored : ℕ) × (rest.ending ≡ Clean ignored)

abbrev pub samples_of_parts : List Rest → List Sample
samples_of_parts parts = flat_map (λ part. part.samples) parts

-- the samples of the parts, one part after another, and all lines that they ignored
abbrev pub joined : List Rest → Rest
joined parts = record { samples = samples_of_parts parts; ending = Clean (sum_by (λ part. ignored_of part.ending) parts) }

-- where no part has a fault, and the weights of all add up to at most 2^56-1, the whole is the parts one after another
abbrev pub ReadsInParts : Rest → List Rest → Type 0
ReadsInParts whole parts = All IsClean parts → total_weight (samples_of_parts parts) ≤ WEIGHT_LIMIT → whole ≡ joined parts
