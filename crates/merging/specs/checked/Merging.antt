-- How the parts of a tree sink follow from its rows.
use Rattle.std.specs.Prelude.{◌≡◌, ℕ, ◌%◌, ◌<◌, ◌≤◌, ◌^◌, ◌==◌, Bool, false, List, [], length, map, take, Option, None, Some, IfSome, if◌then◌else◌}
use Rattle.std.specs.List.{AllByRecursion}
use Rattle.call_tree.specs.CallTree.{Tree, tree_of}
use Rattle.call_tree.specs.FrameTable.{HasDistinctNames}
use Rattle.call_tree.specs.Listing.{AreIn}
use Rattle.merging.specs.declared.snapshots.Snapshot.{Snapshot}
use Rattle.sample_tables.specs.declared.samples.Sample.{Sample}
use Rattle.merging.specs.declared.tally.Tally.{Tally}
use Rattle.merging.specs.checked.Tallies.{IsTally}
use Rattle.merging.specs.Snapshots.{snapshot_counts, snapshot_places}
use Rattle.merging.specs.checked.TakenRows.{TakenRow, rows_of, pair_of, pairs_of, order_of, paths_of}

-- the snapshot of the first m rows
abbrev pub snapshot_of : List TakenRow → ℕ → Snapshot
snapshot_of rows m =
    record { at = m; counts = snapshot_counts m (order_of rows); tree = tree_of (paths_of (take m rows)) }

abbrev pub snapshots_of : Option ℕ → List TakenRow → List Snapshot
snapshots_of every rows = map (snapshot_of rows) (snapshot_places every (length rows))

-- there is a snapshot at m
abbrev pub is_due : Option ℕ → ℕ → Bool
is_due None m = false
is_due (Some every) m = m % every == 0

-- the snapshot of all rows, if one is due then
abbrev pub due_after : Option ℕ → List TakenRow → Option Snapshot
due_after every rows = if is_due every (length rows) then Some (snapshot_of rows (length rows)) else None

-- the numbers of rows are the table's, and their weights fit in 64 bits
pub record IsNumbered (names : List (List ℕ)) (row : TakenRow) : Type 0 where
  pub known : AreIn names row.numbers
  pub weight : row.weight < 2 ^ 64

-- the rows were merged, one after another
pub record AreMerged (every : Option ℕ) (names : List (List ℕ)) (tree : Tree) (rows : List TakenRow) (snapshots : List Snapshot) : Type 0 where
  pub positive : IfSome every (λ k. 1 ≤ k)
  pub distinct : HasDistinctNames names
  pub numbered : AllByRecursion (IsNumbered names) rows
  pub tree_is : tree ≡ tree_of (paths_of rows)
  pub snapshots_are : snapshots ≡ snapshots_of every rows

-- a sink's parts: what was taken was counted and merged
pub record IsTreeSink (tally : Tally) (names : List (List ℕ)) (tree : Tree) (snapshots : List Snapshot) : Type 0 where
  pub tallied : IsTally tally
  pub merged : AreMerged tally.every names tree (rows_of tally.taken) snapshots

-- what is left of a sink when names and room came
pub record Grown (tally : Tally) (names : List (List ℕ)) (tree : Tree) (snapshots : List Snapshot) (pairs : List (ℕ × Sample)) : Type 0 where
  pub sink : IsTreeSink tally names tree snapshots
  pub pairs_are : pairs_of names (rows_of tally.taken) ≡ pairs

-- a row that stands for a stack of a source with a weight
pub record IsRowFor (names : List (List ℕ)) (source : ℕ) (stack : List (List ℕ)) (weight : ℕ) (row : TakenRow) : Type 0 where
  pub numbered : IsNumbered names row
  pub pair_is : pair_of names row ≡ (source, record { stack = stack; weight = weight })
