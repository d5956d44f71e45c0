-- A merged tree that has the sums of samples.
use Rattle.std.specs.Prelude.{◌≡◌, ◌<◌, ◌≤◌, ◌^◌, ℕ, List, [], length}
use Rattle.sample_tables.specs.declared.samples.Sample.{Sample}
use Rattle.sample_tables.specs.declared.samples.TheConstants.{FRAME_LIMIT}
use Rattle.call_tree.specs.CallTree.{Tree, own_weight, total_weight}
use Rattle.call_tree.specs.FrameTable.{HasDistinctNames}
use Rattle.call_tree.specs.Listing.{named, HasNumbersOf, AreIn}
pub use Rattle.merged_stacks.specs.Merged.{all_samples}
use Rattle.flame_layout.specs.Paths.{total_at, own_at, tree_samples, SameOwn}

-- at numbers of the table the tree has the sums that the samples have at their names. The tree has no other
-- numbers, no name has two, and by names it has each stack's own sum: so there is nothing beside
pub record HasSumsOf (names : List (List ℕ)) (tree : Tree) (samples : List Sample) : Type 0 where
  pub total : (path : List ℕ) → AreIn names path → total_weight tree path ≡ total_at (named names path) samples
  pub own : (path : List ℕ) → AreIn names path → own_weight tree path ≡ own_at (named names path) samples
  pub distinct : HasDistinctNames names
  pub numbers : HasNumbersOf names tree
  pub stacks : SameOwn samples (tree_samples names tree)

-- a tree of which the boxes can be made
pub record IsDrawable (names : List (List ℕ)) (tree : Tree) : Type 0 where
  pub total : total_weight tree [] < 2 ^ 64
  pub depth : (path : List ℕ) → 0 < total_weight tree path → length path ≤ FRAME_LIMIT
  pub numbers : HasNumbersOf names tree
