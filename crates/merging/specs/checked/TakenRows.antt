-- What the rows of a sink stand for.
use Rattle.std.specs.Prelude.{◌≡◌, ℕ, List, [], ◌∷◌, ◌++◌, map}
use Rattle.sample_tables.specs.declared.samples.Sample.{Sample}
use Rattle.call_tree.specs.Listing.{named, AreIn}
use Rattle.merging.specs.declared.taken_rows.NumberedSample.{NumberedSample}
use Rattle.merging.specs.declared.taken_rows.TakenRows.{TakenRows, Nothing, More'}

-- a row: its source, the numbers of its names, and its weight
pub record TakenRow : Type 0 where
  pub source : ℕ
  pub numbers : List ℕ
  pub weight : ℕ

-- the row of a sample under its numbers, and those that were taken
abbrev pub row_of : NumberedSample → TakenRow
row_of sample =
    record { source = sample.source; numbers = sample.numbers.items; weight = sample.weight }

abbrev pub rows_of : TakenRows → List TakenRow
rows_of Nothing = []
rows_of (More' _ before last) = rows_of before ++ row_of last.value ∷ []

-- the pair of a source and a sample for which a row stands
abbrev pub pair_of : List (List ℕ) → TakenRow → ℕ × Sample
pair_of names row = (row.source, record { stack = named names row.numbers; weight = row.weight })

abbrev pub pairs_of : List (List ℕ) → List TakenRow → List (ℕ × Sample)
pairs_of names rows = map (pair_of names) rows

-- the sources of rows, in order
abbrev pub order_of : List TakenRow → List ℕ
order_of rows = map (λ row. row.source) rows

-- the paths of rows, with their weights
abbrev pub paths_of : List TakenRow → List (List ℕ × ℕ)
paths_of rows = map (λ row. (row.numbers, row.weight)) rows

-- the numbers are the table's, and have the names of a stack
pub record AreNumbersOf (stack names : List (List ℕ)) (numbers : List ℕ) : Type 0 where
  pub named_as : named names numbers ≡ stack
  pub known : AreIn names numbers
