-- Rows to which others come.
use Rattle.std.specs.Prelude.{◌≡◌, ℕ, zero, suc, ◌+◌, ◌<◌, ◌++◌, ◌⊎◌, List, [], ◌∷◌, length, slice_index_or}
use Rattle.ranked_rows.specs.Joined.{Ranked}

-- the row at a place has these ranks
pub record HasRanks (ranks : List ℕ) (rows : List Ranked) (at : ℕ) : Type 0 where
  pub within : at < length rows
  pub same : (slice_index_or rows at ([], 0)).0 ≡ ranks

-- the rows, of which one weighs more
abbrev pub with_more : List Ranked → ℕ → ℕ → List Ranked
with_more [] at more = []
with_more (row ∷ rows) zero more = (row.0, row.1 + more) ∷ rows
with_more (row ∷ rows) (suc at) more = row ∷ with_more rows at more

-- a row more: behind the others, or added to one of the same ranks
abbrev pub IsGathered : Ranked → List Ranked → List Ranked → Type 0
IsGathered row old new = (new ≡ old ++ row ∷ []) ⊎ ((at : ℕ) × HasRanks row.0 old at × (new ≡ with_more old at row.1))
