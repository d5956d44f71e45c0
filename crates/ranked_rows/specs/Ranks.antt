-- Names in order, and the ranks of told names among them: a name's rank is its place, from 0.
use Rattle.std.specs.Prelude.{◌≡◌, ℕ, ◌<◌, List, length, map, All}
use Rattle.std.specs.List.{flat_map}
use Rattle.std.specs.declared.cmp.Ordering.TheVariants.{Less}
use Rattle.std.specs.Ordering.{nat_cmp}
use Rattle.std.specs.Cmp.Lexicographic.{slice_cmp}
use Rattle.stack_core.specs.Ledgers.{ListState}
use Rattle.sample_tables.specs.Rows.{name_at}

-- each name is below those after it, by their bytes
abbrev pub AreRising : List (List ℕ) → Type 0
AreRising names = (i j : ℕ) → i < j → j < length names → slice_cmp nat_cmp (name_at names i) (name_at names j) ≡ Less

-- the told names, list by list
abbrev pub all_told : List ListState → List (List ℕ)
all_told lists = flat_map (λ list. list.told) lists

-- the ranks lead from the told names to the same names, which rise
pub record AreRanks (told names : List (List ℕ)) (ranks : List ℕ) : Type 0 where
  pub rising : AreRising names
  pub below : All (λ rank. rank < length names) ranks
  pub named : map (name_at names) ranks ≡ told
