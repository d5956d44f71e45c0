use Rattle.std.specs.Prelude.{◌≡◌, ℕ, List, [], ◌∷◌, ◌++◌, length, Option, Some}
use Rattle.sample_tables.specs.Rows.{Entry, Row, fresh_row, named, row_by}
use Rattle.sample_tables.specs.declared.samples.Sample.{Sample}
use Rattle.stack_core.specs.declared.endings.Close.{Close}
use Rattle.stack_core.specs.declared.endings.Close.TheVariants.{Read}
use Rattle.stack_core.specs.declared.endings.SourceEnd.{SourceEnd}

-- what a ledger holds: the samples that it took, how it was closed, the names that it was told, the rows that stand
-- for the samples, the stacks that it keeps, and the samples by their stacks' numbers
pub record LedgerState : Type 0 where
  pub samples : List Sample
  pub close : Option Close
  pub told : List (List ℕ)
  pub rows : List Row
  pub stacks : List (List ℕ)
  pub entries : List Entry

-- what is collected of a source: its samples, its ending, and the names, rows, stacks and entries that tell them
pub record ListState : Type 0 where
  pub samples : List Sample
  pub ending : SourceEnd
  pub told : List (List ℕ)
  pub rows : List Row
  pub stacks : List (List ℕ)
  pub entries : List Entry

-- a stack is kept: it gets the next number
abbrev pub keeping : LedgerState → List ℕ → LedgerState
keeping state frames = record state { stacks = state.stacks ++ frames ∷ [] }

-- a sample of a stack that is kept comes last
abbrev pub with_again : LedgerState → ℕ → ℕ → LedgerState
with_again state stack weight =
    let entry : Entry = record { stack = stack; weight = weight } in
    let row = row_by state.stacks entry in
    record state {
      samples = state.samples ++ named state.told row ∷ [];
      rows = state.rows ++ row ∷ [];
      entries = state.entries ++ entry ∷ [];
    }

-- a row is taken: its stack is kept, and the sample that it stands for comes last
abbrev pub with_row : LedgerState → Row → LedgerState
with_row state row =
    record state {
      samples = state.samples ++ named state.told row ∷ [];
      rows = state.rows ++ row ∷ [];
      stacks = state.stacks ++ row.frames ∷ [];
      entries = state.entries ++ record { stack = length state.stacks; weight = row.weight } ∷ [];
    }

-- a sample is taken: its names are told, and its row comes last
abbrev pub with_sample : LedgerState → Sample → LedgerState
with_sample state sample =
    let row = fresh_row state.told sample in
    record state {
      samples = state.samples ++ sample ∷ [];
      told = state.told ++ sample.stack;
      rows = state.rows ++ row ∷ [];
      stacks = state.stacks ++ row.frames ∷ [];
      entries = state.entries ++ record { stack = length state.stacks; weight = row.weight } ∷ [];
    }

-- closed at an ending to which the source was read
abbrev pub IsRead : Option Close → Type 0
IsRead close = (ending : SourceEnd) × (close ≡ Some (Read ending))
