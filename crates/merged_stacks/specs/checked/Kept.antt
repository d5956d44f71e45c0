-- The stacks that a list keeps, by their numbers, and their sums while its samples come.
use Rattle.std.specs.Prelude.{◌≡◌, ℕ, ◌+◌, Bool, cond, List, [], ◌∷◌, sum_by, slice_index}
use Rattle.sample_tables.specs.declared.samples.Sample.{Sample}
use Rattle.sample_tables.specs.Rows.{Row, named, stack_at}
pub use Rattle.merged_stacks.specs.Sums.{kept_samples, HaveSameSums}

-- the stack of a number, as a sample with its sum
abbrev pub kept_sample : List (List ℕ) → List (List ℕ) → List ℕ → ℕ → Sample
kept_sample told stacks sums number = named told (record { frames = stack_at stacks number; weight = slice_index sums number })

-- the sums of the stacks that are picked
abbrev pub picked : (List ℕ → Bool) → List (List ℕ) → List ℕ → ℕ
picked g [] sums = 0
picked g (frames ∷ stacks) [] = 0
picked g (frames ∷ stacks) (sum ∷ sums) = cond (g frames) sum 0 + picked g stacks sums

abbrev pub picked_weight : (List ℕ → Bool) → Row → ℕ
picked_weight g row = cond (g row.frames) row.weight 0

-- the sums so far are those of the rows so far
abbrev pub ArePicked : List (List ℕ) → List ℕ → List Row → Type 0
ArePicked stacks sums rows = (g : List ℕ → Bool) → picked g stacks sums ≡ sum_by (picked_weight g) rows
