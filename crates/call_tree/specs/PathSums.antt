-- Sums of weights over samples, by the front of their paths.
-- A path is a list, root first, of frame names or of frame numbers. A sample is a path and a weight. `eq` compares two frames.
use Rattle.std.specs.Prelude.{ℕ, Bool, true, false, ◌&&◌, List, [], ◌∷◌, if◌then◌else◌}
use Rattle.std.specs.List.{sum_by}
use Rattle.std.specs.Cmp.Lexicographic.{pointwise}

module _ {A : Type 0} (eq : A → A → Bool) where
  -- does `path` begin with the frames of `front`?
  abbrev pub begins_with : List A → List A → Bool
  begins_with [] path = true
  begins_with (x ∷ front) [] = false
  begins_with (x ∷ front) (y ∷ path) = eq x y && begins_with front path

  -- the sum of the weights of the samples whose path begins with `front`
  unfoldable pub total_of : List (List A × ℕ) → List A → ℕ
  total_of samples front = sum_by (λ s. if begins_with front s.0 then s.1 else 0) samples

  -- the sum of the weights of the samples whose path is `path`
  unfoldable pub own_of : List (List A × ℕ) → List A → ℕ
  own_of samples path = sum_by (λ s. if pointwise eq path s.0 then s.1 else 0) samples
