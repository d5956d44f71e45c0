-- Trees that hold samples, as the tests make them.
use Rattle.std.specs.Prelude.{◌≡◌, ℕ, List, map}
use Rattle.std.specs.List.{AllByRecursion}
use Rattle.call_tree.specs.CallTree.{Tree, tree_of}
use Rattle.call_tree.specs.Listing.{named, AreIn}
use Rattle.sample_tables.specs.declared.samples.Sample.{Sample}

-- the tree holds the samples: rows of the table's numbers, that were added to it
pub record Holds (names : List (List ℕ)) (tree : Tree) (samples : List Sample) : Type 0 where
  pub rows : List (List ℕ × ℕ)
  pub tree_is : tree ≡ tree_of rows
  pub samples_are : samples ≡ map (λ row. record { stack = named names row.0; weight = row.1 }) rows
  pub known : AllByRecursion (λ row. AreIn names row.0) rows
