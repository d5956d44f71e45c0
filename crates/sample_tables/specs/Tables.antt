use Rattle.std.specs.Prelude.{◌<◌, ◌≤◌, ℕ, List, [], ◌∷◌, ◌++◌, length, map, All}
use Rattle.std.specs.List.{range_with_len}
use Rattle.sample_tables.specs.Rows.{Entry, named, rows_by}
use Rattle.sample_tables.specs.declared.samples.Sample.{Sample}
use Rattle.sample_tables.specs.declared.samples.TheConstants.{FRAME_LIMIT}

-- a stack within the limit, whose numbers all stand for names
pub record IsStack (names : List (List ℕ)) (frames : List ℕ) : Type 0 where
  pub depth : length frames ≤ FRAME_LIMIT
  pub numbers : All (λ k. k < length names) frames

-- names, stacks of their numbers, and samples by their stacks' numbers
pub record Table : Type 0 where
  pub names : List (List ℕ)
  pub stacks : List (List ℕ)
  pub entries : List Entry

-- the samples that the entries stand for
abbrev pub samples_in : Table → List Sample
samples_in table = map (named table.names) (rows_by table.stacks table.entries)

-- a stack comes last, and so does a sample of it
abbrev pub table_with_row : Table → List ℕ → ℕ → Table
table_with_row table frames weight =
    record {
      names = table.names;
      stacks = table.stacks ++ frames ∷ [];
      entries = table.entries ++ record { stack = length table.stacks; weight = weight } ∷ [];
    }

-- a sample's names come last, each under the next number, and so does its row
abbrev pub table_with_sample : Table → List (List ℕ) → ℕ → Table
table_with_sample table stack weight =
    table_with_row (record table { names = table.names ++ stack }) (range_with_len (length table.names) (length stack)) weight
