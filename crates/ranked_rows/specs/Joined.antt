-- Rows of ranks, and how they are joined.
use Rattle.std.specs.Prelude.{◌≡◌, ⊤, ℕ, ◌+◌, false, List, [], ◌∷◌, if◌then◌else◌, nat_eq}
use Rattle.std.specs.Ordering.{nat_cmp, is_lt}
use Rattle.std.specs.Cmp.Lexicographic.{slice_cmp, pointwise}

-- the ranks of a stack's names, and a weight
abbrev pub Ranked : Type 0
Ranked = List ℕ × ℕ

-- a row in front of others: added to the first one, if that has the same ranks
abbrev pub join_front : Ranked → List Ranked → List Ranked
join_front row [] = row ∷ []
join_front row (first ∷ rows) = if pointwise nat_eq first.0 row.0 then (first.0, first.1 + row.1) ∷ rows else row ∷ first ∷ rows

-- neighbours of the same ranks as one row
abbrev pub joined : List Ranked → List Ranked
joined [] = []
joined (row ∷ rows) = join_front row (joined rows)

-- no row is below the one before it
abbrev pub AreAscending : List Ranked → Type 0
AreAscending [] = ⊤
AreAscending (row ∷ []) = ⊤
AreAscending (row ∷ next ∷ rows) = (is_lt (slice_cmp nat_cmp next.0 row.0) ≡ false) × AreAscending (next ∷ rows)
