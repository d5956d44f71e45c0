-- Tables of what is told of names.
use Rattle.std.specs.Prelude.{◌≡◌, ℕ, ◌<◌, ◌↔◌, List, [], ◌∷◌, map, All, Contains}
use Rattle.std.specs.BTreeSet.{insert_key}
use Rattle.std.specs.List.Sorted.{IsStrictlySortedBy}
use Rattle.std.specs.declared.cmp.Ordering.{Ordering}

-- what is told of each name with weight, each once, in order
pub record IsTable {X : Type 0} (cmp : X → X → Ordering) (name_of : X → List ℕ) (told : List ℕ → X) (weight : List ℕ → ℕ) (rows : List X) : Type 0 where
  pub each : All (λ row. row ≡ told (name_of row)) rows
  pub all : (name : List ℕ) → Contains (map name_of rows) name ↔ (0 < weight name)
  pub ordered : IsStrictlySortedBy cmp rows

-- some rows put in order, each once
abbrev pub put_in_order : {X : Type 0} → (X → X → Ordering) → List X → List X
put_in_order cmp [] = []
put_in_order cmp (row ∷ rows) = insert_key cmp (put_in_order cmp rows) row
