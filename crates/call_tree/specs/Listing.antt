-- The nodes of a tree in the order of their names.
use Rattle.std.specs.Prelude.{◌≡◌, ℕ, ◌-◌, ◌<◌, ◌↔◌, List, [], ◌∷◌, ◌++◌, length, map, Contains}
use Rattle.std.specs.List.{slice_index, slice_index_or, AllByRecursion}
use Rattle.std.specs.Ordering.{nat_cmp}
use Rattle.std.specs.Cmp.Lexicographic.{slice_cmp}
use Rattle.std.specs.declared.cmp.Ordering.TheVariants.{Less}
use Rattle.call_tree.specs.declared.listing.Visit.{Visit}
use Rattle.call_tree.specs.CallTree.{Tree, own_weight, total_weight}
use Rattle.call_tree.specs.FrameTable.{HasDistinctNames}

-- the names of a path's numbers
abbrev pub named : List (List ℕ) → List ℕ → List (List ℕ)
named names path = map (λ n. slice_index_or names n []) path

-- what a listing says of a path; the root has the frame 0
abbrev pub visit_of : Tree → List ℕ → Visit
visit_of tree path = record { depth = length path; frame = slice_index path (length path - 1); total = total_weight tree path; own = own_weight tree path }

-- each number of the path is one of the table's
abbrev pub AreIn : List (List ℕ) → List ℕ → Type 0
AreIn names path = AllByRecursion (λ n. n < length names) path

-- each number of a path with weight is one of the table's
abbrev pub HasNumbersOf : List (List ℕ) → Tree → Type 0
HasNumbersOf names tree = (front : List ℕ) (n : ℕ) → 0 < total_weight tree (front ++ n ∷ []) → n < length names

-- the names differ, and `visits` are the paths with weight, each once, ordered as lists of names: so a path stands before those
-- that begin with it
pub record IsListing (names : List (List ℕ)) (tree : Tree) (visits : List Visit) : Type 0 where
  pub distinct : HasDistinctNames names
  pub paths : List (List ℕ)
  pub are : visits ≡ map (visit_of tree) paths
  pub rises : (i j : ℕ) → i < j → j < length paths → slice_cmp (slice_cmp nat_cmp) (named names (slice_index_or paths i [])) (named names (slice_index_or paths j [])) ≡ Less
  pub members : (path : List ℕ) → Contains paths path ↔ (0 < total_weight tree path)

-- the numbers of all samples are the table's
abbrev pub AreAllIn : List (List ℕ) → List (List ℕ × ℕ) → Type 0
AreAllIn names samples = AllByRecursion (λ s. AreIn names s.0) samples

-- the samples with names in place of numbers
abbrev pub named_samples : List (List ℕ) → List (List ℕ × ℕ) → List (List (List ℕ) × ℕ)
named_samples names samples = map (λ s. (named names s.0, s.1)) samples
