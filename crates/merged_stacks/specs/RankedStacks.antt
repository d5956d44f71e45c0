-- Samples by the ranks of their names.
use Rattle.std.specs.Prelude.{ℕ, ◌<◌, List, [], All, length, map, slice_index_or}
use Rattle.sample_tables.specs.declared.samples.Sample.{Sample}
use Rattle.sample_tables.specs.Rows.{name_at}

-- some names, and samples as the ranks of their names and a weight: a name's rank is its place, from 0
pub record Ranking : Type 0 where
  pub names : List (List ℕ)
  pub rows : List (List ℕ × ℕ)

abbrev pub sample_of : List (List ℕ) → List ℕ × ℕ → Sample
sample_of names row = record { stack = map (name_at names) row.0; weight = row.1 }

-- the samples, each rank replaced by its name
abbrev pub ranked_samples : Ranking → List Sample
ranked_samples ranking = map (sample_of ranking.names) ranking.rows

-- the ranks of a sample's names
abbrev pub ranks_at : Ranking → ℕ → List ℕ
ranks_at ranking at = (slice_index_or ranking.rows at ([], 0)).0

-- each rank is that of a name
abbrev pub NamesEachRank : Ranking → Type 0
NamesEachRank ranking = All (λ row. All (λ rank. rank < length ranking.names) row.0) ranking.rows
