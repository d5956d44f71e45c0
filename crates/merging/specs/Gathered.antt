-- What a run gathered.
use Rattle.std.specs.Prelude.{ℕ, List, Option}
use Rattle.stack_core.specs.Interleaving.{IsInterleaving}
use Rattle.stack_core.specs.Ledgers.{ListState}
use Rattle.call_tree.specs.CallTree.{Tree}
use Rattle.merged_stacks.specs.Timeline.{samples_of}
use Rattle.merging.specs.declared.snapshots.Snapshot.{Snapshot}
use Rattle.merging.specs.Snapshots.{snapshot_samples, AreSnapshots}
use Rattle.merging.specs.Sums.{all_samples, HasSumsOf}
use Rattle.source_lists.specs.Lists.{AreLimited}

-- the lists, the order in which their samples came, and what was merged of them meanwhile
pub record GatheredState : Type 0 where
  pub lists : List ListState
  pub order : List ℕ
  pub every : Option ℕ
  pub names : List (List ℕ)
  pub tree : Tree
  pub snapshots : List Snapshot

-- the order is one of the lists, the tree has their sums, and the snapshots are those of the order
pub record IsGathered (lists : List ListState) (order : List ℕ) (every : Option ℕ) (names : List (List ℕ)) (tree : Tree) (snapshots : List Snapshot) : Type 0 where
  pub limits : AreLimited lists
  pub ordered : IsInterleaving order (samples_of lists)
  pub sums : HasSumsOf names tree (all_samples (samples_of lists))
  pub made : AreSnapshots every names order (λ m. snapshot_samples m order (samples_of lists)) snapshots
