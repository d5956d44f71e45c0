-- The rows of two lists side by side, as one sweep over both finds them.
use Rattle.std.specs.Prelude.{◌≡◌, ℕ, ◌+◌, ◌<◌, List, [], ◌∷◌, All, map, length, slice_index_or}
use Rattle.std.specs.Ordering.{nat_cmp, match_ordering}
use Rattle.std.specs.Cmp.Lexicographic.{slice_cmp}
use Rattle.sample_tables.specs.Rows.{name_at}
use Rattle.merged_stacks.specs.declared.sweeps.Place.{Place}
use Rattle.merged_stacks.specs.declared.sweeps.Place.TheVariants.{Before, After, Both}
use Rattle.merged_stacks.specs.Paired.{PairedStack}
use Rattle.sample_tables.specs.declared.samples.Sample.{Sample}
use Rattle.merged_stacks.specs.Timeline.{Stack}
use Rattle.merged_stacks.specs.Merged.{weighed, sum_at}
use Rattle.merged_stacks.specs.checked.Ranked.{Ranked, AreMerged, named_rows}

-- the ranks of a stack's names, and its weights in both lists
abbrev pub PairedRow : Type 0
PairedRow = List ℕ × ℕ × ℕ

abbrev pub row_of_after : Ranked → PairedRow
row_of_after row = (row.0, 0, row.1)

-- a row in front of the rows that a rest of the other list leads to
abbrev pub swept_front : Ranked → (List Ranked → List PairedRow) → List Ranked → List PairedRow
swept_front row rest [] = (row.0, row.1, 0) ∷ rest []
swept_front row rest (other ∷ others) =
    match_ordering (slice_cmp nat_cmp row.0 other.0) ((row.0, row.1, 0) ∷ rest (other ∷ others)) ((row.0, row.1, other.1) ∷ rest others) (row_of_after other ∷ swept_front row rest others)

-- the rows of both lists
abbrev pub swept : List Ranked → List Ranked → List PairedRow
swept [] = map row_of_after
swept (row ∷ rows) = swept_front row (swept rows)

-- the row that stands at a place
abbrev pub before_row : List Ranked → ℕ → Ranked
before_row rows at = slice_index_or rows at ([], 0)

abbrev pub place_row : List Ranked → List Ranked → Place → PairedRow
place_row lefts rights (Before at) = ((before_row lefts at).0, (before_row lefts at).1, 0)
place_row lefts rights (After at) = row_of_after (before_row rights at)
place_row lefts rights (Both at other) = ((before_row lefts at).0, (before_row lefts at).1, (before_row rights other).1)

-- where the sweep goes on in the first list, and in the second
abbrev pub before_next : ℕ → Place → ℕ
before_next before (Before at) = at + 1
before_next before (After at) = before
before_next before (Both at other) = at + 1

abbrev pub after_next : ℕ → Place → ℕ
after_next after (Before at) = after
after_next after (After at) = at + 1
after_next after (Both at other) = other + 1

-- the place lies in the lists
abbrev pub IsPlace : List Ranked → List Ranked → Place → Type 0
IsPlace lefts rights (Before at) = at < length lefts
IsPlace lefts rights (After at) = at < length rights
IsPlace lefts rights (Both at other) = (at < length lefts) × (other < length rights)

-- a row by its names
abbrev pub paired_of : List (List ℕ) → PairedRow → PairedStack
paired_of names row = record { stack = map (name_at names) row.0; before = row.1; after = row.2 }

-- the rows are the merged stacks of the samples
pub record HasStacks (names : List (List ℕ)) (samples : List Sample) (rows : List Ranked) : Type 0 where
  pub merged : AreMerged names rows
  pub sums : (stack : Stack) → sum_at (named_rows names rows) stack ≡ sum_at (weighed samples) stack

-- the places are those of one sweep over two merged lists
pub record ArePaired (names : List (List ℕ)) (lefts rights : List Ranked) (places : List Place) : Type 0 where
  pub before : AreMerged names lefts
  pub after : AreMerged names rights
  pub within : All (IsPlace lefts rights) places
  pub rows : map (place_row lefts rights) places ≡ swept lefts rights
