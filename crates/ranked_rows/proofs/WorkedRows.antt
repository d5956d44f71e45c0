-- A worked example, computed on the definitions.
use Rattle.std.proofs.Common.{◌≡◌, [], ◌∷◌, refl}
use Rattle.ranked_rows.specs.Joined.{joined}

-- neighbours of the same ranks are one row, and rows apart are not
rows_joined : joined ((0 ∷ [], 5) ∷ (0 ∷ [], 2) ∷ (0 ∷ 1 ∷ [], 1) ∷ (0 ∷ [], 3) ∷ []) ≡ (0 ∷ [], 7) ∷ (0 ∷ 1 ∷ [], 1) ∷ (0 ∷ [], 3) ∷ []
rows_joined = refl
