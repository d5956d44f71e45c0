-- Stacks of numbers with their weights, as rows of ranks.
use Rattle.std.specs.Prelude.{ℕ, List, [], ◌∷◌, if◌then◌else◌, map, nat_lt, slice_index}
use Rattle.ranked_rows.specs.Joined.{Ranked}

-- the stacks that weigh, each as the ranks of its numbers and its weight
abbrev pub weighing : List ℕ → List (List ℕ) → List ℕ → List Ranked
weighing ranks [] weights = []
weighing ranks (stack ∷ stacks) [] = []
weighing ranks (stack ∷ stacks) (weight ∷ weights) =
    if nat_lt 0 weight then (map (slice_index ranks) stack, weight) ∷ weighing ranks stacks weights else weighing ranks stacks weights
