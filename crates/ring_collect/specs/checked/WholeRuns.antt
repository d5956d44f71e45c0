-- A run that took all: checked, not to be believed.
use Rattle.std.specs.Prelude.{◌≡◌, ◌≤◌, ◌++◌, ℕ, Bool, true, List, [], All, length, map, Some, slice_get}
use Rattle.stack_core.specs.Reading.{Rest}
use Rattle.stack_core.specs.RowReading.{GivesSome}
use Rattle.stack_core.specs.Ledgers.{LedgerState, ListState}
use Rattle.stack_core.specs.Interleaving.{AreOf, list_of, sources_of}
use Rattle.sample_tables.specs.Rows.{ToldRows}
use Rattle.sample_tables.specs.declared.samples.Sample.{Sample}
use Rattle.ring_collect.specs.Collection.{CollectsRun, FeedsRun, GainsAllowed, GainsFirst, Unfinishes}
use Rattle.ring_collect.specs.checked.Settlement.{IsAllTold}
use Rattle.ring_collect.specs.declared.faults.CollectFault.{CollectFault}
use Rattle.ring_collect.specs.declared.faults.CollectFault.TheVariants.{OutOfMemory, NoThread, Unfinished}

-- readers of a run: few, of which none has told anything, and each may give a rest
pub record CanRun {R : Type 0} (told : R → ToldRows) (gives : R → Rest → Type 0) (readers : List R) : Type 0 where
  pub few : length readers ≤ 64
  pub nothing_told : All (λ reader. told reader ≡ record { names = []; stacks = [] }) readers
  pub possible : All (λ reader. GivesSome (gives reader)) readers

-- the ledger of each source is all that was told there, and the sink gained the same samples, in this order, if samples are kept
pub record RunsWhole (keeps : Bool) (may_stop may_go : ℕ → ℕ → Type 0) (rests : List Rest) (ledgers : List LedgerState) (order : List ℕ) (taken taken' : List (ℕ × Sample)) : Type 0 where
  pub pairs : List (ℕ × Sample)
  pub lists : List (List Sample)
  pub gained : taken' ≡ taken ++ pairs
  pub of_lists : AreOf pairs lists
  pub ordered : keeps ≡ true → order ≡ sources_of pairs
  pub all_listed : length lists ≡ length ledgers
  pub count : length ledgers ≡ length rests
  pub each : (source : ℕ) (rest : Rest) (ledger : LedgerState) → slice_get rests source ≡ Some rest → slice_get ledgers source ≡ Some ledger
      → IsAllTold keeps may_stop may_go source rest (list_of lists source) ledger

-- what a run answers that hands out lists and an order: what was collected, if samples are kept, and else what was fed
pub record HandsOut (keeps : Bool) (may_stop may_go : ℕ → ℕ → Type 0) (rests : List Rest) (taken taken' : List (ℕ × Sample)) (lists : List ListState) (order : List ℕ) : Type 0 where
  pub kept : keeps ≡ true → CollectsRun may_stop may_go rests taken taken' lists order
  pub fed : FeedsRun may_stop may_go rests taken taken' (map (λ list. list.ending) lists)
  pub first : GainsFirst rests taken taken'
  pub allowed : GainsAllowed may_go taken taken'

-- the fault is that a source of the run is unfinished
abbrev pub IsUnfinished : ℕ → List (ℕ × Sample) → List (ℕ × Sample) → CollectFault → Type 0
IsUnfinished count taken taken' OutOfMemory = ⊥
IsUnfinished count taken taken' NoThread = ⊥
IsUnfinished count taken taken' (Unfinished source) = Unfinishes count source taken taken'
