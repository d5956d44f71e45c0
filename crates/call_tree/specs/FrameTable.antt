-- A table of frame names: a list of distinct names, each the list of its bytes. A name's number is its place.
use Rattle.std.specs.Prelude.{◌≡◌, ℕ, ◌<◌, List, [], length}
use Rattle.std.specs.List.{slice_index_or}
-- the table after a name is asked for: a known name changes nothing, a new one goes last
pub use Rattle.stack_core.specs.NamesInOrder.{with_name}

-- two places of one name are one place
abbrev pub HasDistinctNames : List (List ℕ) → Type 0
HasDistinctNames names = (i j : ℕ) → i < length names → j < length names → slice_index_or names i [] ≡ slice_index_or names j [] → i ≡ j
