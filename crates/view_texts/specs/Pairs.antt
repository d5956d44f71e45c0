-- Two-column text: a line for each stack with an own weight in either of two profiles, sorted by stack, the first profile's weight first.
use Rattle.std.specs.Prelude.{◌≡◌, ◌<◌, ◌+◌, ◌↔◌, ◌||◌, ℕ, Bool, List, All, Contains, map, filter, nat_lt}
use Rattle.std.specs.List.{flat_map}
use Rattle.sample_tables.specs.declared.samples.Sample.{Sample}
use Rattle.folded_lines.specs.Writing.{pair_line_of}
use Rattle.flame_layout.specs.declared.boxes.PairRow.{PairRow}
use Rattle.merged_stacks.specs.Timeline.{Stack}
use Rattle.flame_layout.specs.Paths.{own_at, IsRising}
use Rattle.flame_layout.specs.Comparison.{comparison_of}

-- whether the path of a row has an own weight in either profile
abbrev pub has_own : PairRow → Bool
has_own row = nat_lt 0 row.own_before || nat_lt 0 row.own_after

abbrev pub pairs_of : List PairRow → List PairRow
pairs_of rows = filter has_own rows

-- the lines of some rows
abbrev pub pair_lines_of : List PairRow → List ℕ
pair_lines_of rows = flat_map (λ row. pair_line_of row.path row.own_before row.own_after) rows

-- the two-column text of two profiles
abbrev pub pairs_text : List Sample → List Sample → List ℕ
pairs_text before after = pair_lines_of (pairs_of (comparison_of before after))

-- the stacks with an own weight in either profile, sorted, each once, with the sums of the samples of both
pub record AreAllPairs (before after : List Sample) (rows : List PairRow) : Type 0 where
  pub rise : IsRising (map (λ row. row.path) rows)
  pub all : (stack : Stack) → Contains (map (λ row. row.path) rows) stack ↔ (0 < own_at stack before + own_at stack after)
  pub sums : All (λ row. (row.own_before ≡ own_at row.path before) × (row.own_after ≡ own_at row.path after)) rows
