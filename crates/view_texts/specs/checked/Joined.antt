-- Names as they are joined, and one by itself.
use Rattle.std.specs.Prelude.{ℕ, Bool, List, ◌∷◌, map, if◌then◌else◌}
use Rattle.std.specs.List.{join_with_byte}
use Rattle.sample_tables.specs.Rows.{name_at}

abbrev pub joint : Bool → List ℕ → List ℕ
joint later name = if later then 59 ∷ name else name

-- the names of these ranks
abbrev pub joined_names : List (List ℕ) → List ℕ → List ℕ
joined_names names ranks = join_with_byte 59 (map (name_at names) ranks)
