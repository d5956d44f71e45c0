-- A merged tree of call paths: a finite map from paths, as lists of frame numbers, to the weight that is a path's own.
-- A path that the map lacks has no weight of its own.
use Rattle.std.specs.FinMap as map
use Rattle.std.specs.Prelude.{◌≡◌, ℕ, ◌+◌, ◌<◌, ◌==◌, ◌↔◌, List, [], ◌∷◌, ◌++◌, length, nat_eq, Contains, if◌then◌else◌}
use Rattle.std.specs.List.{fold, slice_index, slice_index_or}
use Rattle.std.specs.Option.{unwrap_or}
use Rattle.std.specs.Ordering.{nat_cmp}
use Rattle.std.specs.Cmp.Lexicographic.{slice_cmp}
use Rattle.call_tree.specs.PathSums.{total_of}

abbrev pub Tree : Type 0
Tree = map.FinMap (slice_cmp nat_cmp) ℕ

-- the weight of the path alone
abbrev pub own_weight : Tree → List ℕ → ℕ
own_weight tree path = unwrap_or (map.get tree path) 0

-- the sum of the weights of the paths that begin with `front`
abbrev pub total_weight : Tree → List ℕ → ℕ
total_weight tree front = total_of nat_eq (map.entries tree) front

-- the tree with `weight` more at `path`; a weight of 0 changes nothing
unfoldable pub with_weight : Tree → List ℕ → ℕ → Tree
with_weight tree path weight = if weight == 0 then tree else map.insert tree path (own_weight tree path + weight)

-- the tree after the samples are added to an empty one, in turn
abbrev pub tree_of : List (List ℕ × ℕ) → Tree
tree_of samples = fold (λ tree s. with_weight tree s.0 s.1) map.empty samples

-- `children` are, rising, the numbers by which `path` goes on to a path with weight
pub record IsChildren (tree : Tree) (path : List ℕ) (children : List ℕ) : Type 0 where
  pub rises : (i j : ℕ) → i < j → j < length children → slice_index children i < slice_index children j
  pub members : (n : ℕ) → Contains children n ↔ (0 < total_weight tree (path ++ n ∷ []))

-- n is 1, for the root, and the number of other paths with weight: `paths` are these, each once
pub record IsNodeCount (tree : Tree) (n : ℕ) : Type 0 where
  pub paths : List (List ℕ)
  pub distinct : (i j : ℕ) → i < length paths → j < length paths → slice_index_or paths i [] ≡ slice_index_or paths j [] → i ≡ j
  pub below_root : (front : List ℕ) (number : ℕ) → Contains paths (front ++ number ∷ []) ↔ (0 < total_weight tree (front ++ number ∷ []))
  pub no_root : Contains paths [] → ⊥
  pub count : n ≡ 1 + length paths
