-- What is counted of each name, stack by stack and frame by frame.
use Rattle.std.specs.Prelude.{◌≡◌, ℕ, ◌+◌, ◌<◌, ◌^◌, Bool, true, false, List, Option, None, Some, length, filter, nat_lt, slice_index_or, if◌then◌else◌}
use Rattle.std.specs.Str.{bytes_eq}
use Rattle.sample_tables.specs.declared.samples.Sample.{Sample}
use Rattle.sample_tables.specs.Rows.{name_at}
use Rattle.merged_stacks.specs.Timeline.{Stack}
use Rattle.function_sums.specs.declared.counts.Count.{Count}
use Rattle.function_sums.specs.declared.sums.FunctionSum.{FunctionSum}
use Rattle.function_sums.specs.FunctionSums.{stands_in, own_of, total_of}

-- one frame more of a stack
abbrev pub counted : ℕ → ℕ → Count → Count
counted weight stamp count =
    if nat_lt count.stamp stamp then record { own = count.own; total = count.total + weight; stamp = stamp } else count

-- a stack's weight has room, once
abbrev pub HasRoom : ℕ → ℕ → Count → Type 0
HasRoom weight stamp count = (count.own + weight < 2 ^ 64) × (count.stamp < stamp → count.total + weight < 2 ^ 64)

-- what was counted of a name: the samples that end in it, those in which it stands, and the front of a stack, under its stamp
pub record IsCount (name : List ℕ) (lasts done : List Sample) (front : Stack) (weight stamp : ℕ) (count : Count) : Type 0 where
  pub own : count.own ≡ own_of name lasts
  pub total : count.total ≡ total_of name done + (if stands_in name front then weight else 0)
  pub marked : stands_in name front ≡ true → count.stamp ≡ stamp
  pub unmarked : stands_in name front ≡ false → count.stamp < stamp

-- each name has its count
pub record AreCounts (names : List (List ℕ)) (counts : List Count) (lasts done : List Sample) (front : Stack) (weight stamp : ℕ) : Type 0 where
  pub many : length counts ≡ length names
  pub each : (i : ℕ) (d : Count) → i < length names → IsCount (name_at names i) lasts done front weight stamp (slice_index_or counts i d)

-- whether the last frame, where there is one, has the name
abbrev pub ended : List (List ℕ) → Option ℕ → List ℕ → Bool
ended names None name = false
ended names (Some last) name = bytes_eq name (name_at names last)

-- what some samples end in, and what stands in others
abbrev pub sums_by : List Sample → List Sample → List ℕ → FunctionSum
sums_by lasts samples name = record { name = name; own = own_of name lasts; total = total_of name samples }

-- the names that stand in a sample with weight
abbrev pub has_weight : List Sample → List ℕ → Bool
has_weight samples name = nat_lt 0 (total_of name samples)

abbrev pub names_with_weight : List Sample → List (List ℕ) → List (List ℕ)
names_with_weight samples names = filter (has_weight samples) names
