-- Samples by numbers: names are told once, stacks are kept as the numbers of their names, and a sample is the number of its stack and a weight.
use Rattle.std.specs.Prelude.{◌≡◌, ◌<◌, ◌≤◌, ℕ, List, [], map, length, All, slice_index_or}
use Rattle.std.specs.List.{range_with_len}
use Rattle.sample_tables.specs.declared.samples.TheConstants.{FRAME_LIMIT, WEIGHT_LIMIT}
use Rattle.sample_tables.specs.declared.samples.Sample.{Sample}

-- a sample by numbers: those of its names, root first, and its weight
pub record Row : Type 0 where
  pub frames : List ℕ
  pub weight : ℕ

-- the name that number k stands for: the k-th, from 0
abbrev pub name_at : List (List ℕ) → ℕ → List ℕ
name_at names k = slice_index_or names k []

-- the sample that a row stands for
abbrev pub named : List (List ℕ) → Row → Sample
named names row = record { stack = map (name_at names) row.frames; weight = row.weight }

-- a row within the limits, whose numbers all stand for names
pub record IsRow (names : List (List ℕ)) (row : Row) : Type 0 where
  pub depth : length row.frames ≤ FRAME_LIMIT
  pub numbers : All (λ k. k < length names) row.frames
  pub weight : row.weight ≤ WEIGHT_LIMIT

-- the names and the stacks of a source that were told, in order; number k stands for the k-th, from 0. A stack is
-- the numbers of its names, root first
pub record ToldRows : Type 0 where
  pub names : List (List ℕ)
  pub stacks : List (List ℕ)

-- the stack of number k, as the numbers of its names: the k-th that was kept, from 0
abbrev pub stack_at : List (List ℕ) → ℕ → List ℕ
stack_at stacks k = slice_index_or stacks k []

-- a sample by the number of its stack, and its weight
pub record Entry : Type 0 where
  pub stack : ℕ
  pub weight : ℕ

-- entry i; an empty one past the end
abbrev pub entry_at : List Entry → ℕ → Entry
entry_at entries i = slice_index_or entries i (record { stack = 0; weight = 0 })

-- the row of an entry, and those of entries
abbrev pub row_by : List (List ℕ) → Entry → Row
row_by stacks entry = record { frames = stack_at stacks entry.stack; weight = entry.weight }

abbrev pub rows_by : List (List ℕ) → List Entry → List Row
rows_by stacks entries = map (row_by stacks) entries

-- row i, and sample i; an empty one past the end
abbrev pub row_at : List Row → ℕ → Row
row_at rows i = slice_index_or rows i (record { frames = []; weight = 0 })

abbrev pub sample_at : List Sample → ℕ → Sample
sample_at samples i = slice_index_or samples i (record { stack = []; weight = 0 })

-- the samples are the rows' with their names, and each row is within the limits
pub record AreNamed (names : List (List ℕ)) (rows : List Row) (samples : List Sample) : Type 0 where
  pub each : All (IsRow names) rows
  pub samples_named : samples ≡ map (named names) rows

-- the entries stand for the rows, and each has a stack that is kept
pub record AreEntries (stacks : List (List ℕ)) (entries : List Entry) (rows : List Row) : Type 0 where
  pub kept : All (λ entry. entry.stack < length stacks) entries
  pub stand_for : rows ≡ rows_by stacks entries

-- the row of a sample whose names come anew, after the names that were there
abbrev pub fresh_row : List (List ℕ) → Sample → Row
fresh_row names sample =
    record { frames = range_with_len (length names) (length sample.stack); weight = sample.weight }
