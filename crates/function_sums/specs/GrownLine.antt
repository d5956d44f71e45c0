-- The line on standard error that names the functions whose share of own weight grew by more than so many hundredths of the whole.
use Rattle.std.specs.Prelude.{ℕ, List, [], ◌∷◌, ◌++◌, codes, decimal}
use Rattle.std.specs.List.{join_by}

abbrev pub said_of : ℕ → List ℕ → List ℕ
said_of points names = codes "flamecollect: grew by more than " ++ (decimal points ++ (codes " %: " ++ (names ++ codes "\n")))

-- none where there is no such function
abbrev pub grown_line : ℕ → List (List ℕ) → List ℕ
grown_line points [] = []
grown_line points (name ∷ names) = said_of points (join_by (λ name. name) (codes ", ") (name ∷ names))
