-- A tree sink as contracts see it.
use Rattle.std.specs.Prelude.{ℕ, List, Option}
use Rattle.sample_tables.specs.declared.samples.Sample.{Sample}
use Rattle.call_tree.specs.CallTree.{Tree}
use Rattle.merging.specs.declared.snapshots.Snapshot.{Snapshot}

-- after how many samples a snapshot is taken, the pairs that were taken, the names of the table, the merged
-- tree, and the snapshots
pub record TreeSinkState : Type 0 where
  pub every : Option ℕ
  pub taken : List (ℕ × Sample)
  pub names : List (List ℕ)
  pub tree : Tree
  pub snapshots : List Snapshot
