-- Lists of which some samples came, with the sums of the stacks that the lists keep.
use Rattle.std.specs.Prelude.{◌≡◌, ℕ, ◌<◌, ◌^◌, List, IsPermutation, length, map, take}
use Rattle.std.specs.List.{range_with_len}
use Rattle.sample_tables.specs.declared.samples.Sample.{Sample}
use Rattle.sample_tables.specs.Rows.{named}
use Rattle.stack_core.specs.Ledgers.{ListState}
use Rattle.merged_stacks.specs.Timeline.{total_weight, samples_of}
use Rattle.merged_stacks.specs.Merged.{all_samples}
use Rattle.merged_stacks.specs.checked.Kept.{ArePicked}
use Rattle.merged_stacks.specs.checked.Ranks.{all_told, AreRanks}

-- a list, and how many of its samples came
pub record ListFront : Type 0 where
  pub list : ListState
  pub count : ℕ

-- a list of which nothing came yet
abbrev pub not_begun : ListState → ListFront
not_begun list = record { list = list; count = 0 }

-- the samples that came
abbrev pub came : ListFront → List Sample
came front = take front.count front.list.samples

abbrev pub lists_in : List ListFront → List ListState
lists_in parts = map (λ front. front.list) parts

abbrev pub counts_in : List ListFront → List ℕ
counts_in parts = map (λ front. front.count) parts

-- the order is one of all stacks, the sums are those of a list's first samples, and there is room for those of all
pub record IsSummed (list : ListState) (order sums : List ℕ) (count : ℕ) : Type 0 where
  pub ordered : IsPermutation (range_with_len 0 (length list.stacks)) order
  pub len : length sums ≡ length list.stacks
  pub fits : length list.samples < 2 ^ 64
  pub total : total_weight list.samples < 2 ^ 64
  pub samples_named : list.samples ≡ map (named list.told) list.rows
  pub picked : ArePicked list.stacks sums (take count list.rows)

-- the counts are those of the parts, and the ranks lead from the names that the lists were told to the same names
pub record AreGrowing (parts : List ListFront) (counts : List ℕ) (names : List (List ℕ)) (ranks : List ℕ) : Type 0 where
  pub counted : counts ≡ counts_in parts
  pub ranked : AreRanks (all_told (lists_in parts)) names ranks
  pub total : total_weight (all_samples (samples_of (lists_in parts))) < 2 ^ 64
