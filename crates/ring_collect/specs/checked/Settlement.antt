-- A source at the end of a run: checked, not to be believed.
use Rattle.std.specs.Prelude.{◌≡◌, ◌≢◌, ℕ, Bool, true, List, length, map, Some, slice_get}
use Rattle.std.specs.Arc.{arc_value}
use Rattle.rtrb.specs.Ring.{received}
use Rattle.stack_core.specs.Reading.{Rest}
use Rattle.stack_core.specs.RowReading.{GivesSuch}
use Rattle.stack_core.specs.Ledgers.{LedgerState, ListState}
use Rattle.stack_core.specs.Prefixes.{IsPrefixOf}
use Rattle.stack_core.specs.Told.{GoesBelow, IsToldUnder, told}
use Rattle.sample_tables.specs.declared.samples.Sample.{Sample}
use Rattle.stack_core.specs.declared.endings.Close.{Close}
use Rattle.stack_core.specs.declared.endings.Close.TheVariants.{Read}
use Rattle.stack_core.specs.declared.records.RingRecord.{RingRecord}
use Rattle.ring_collect.specs.checked.Batches.{records_of_all}
use Rattle.ring_collect.specs.checked.Tellers.{AreNamesOf}
use Rattle.ring_collect.specs.checked.Intakes.{Tracks}
use Rattle.ring_collect.specs.declared.intakes.Intake.{Intake}
use Rattle.ring_collect.specs.declared.running_sources.RunningSource.{RunningSource}
use Rattle.ring_collect.specs.declared.intakes.Stage.{Stage}
use Rattle.ring_collect.specs.declared.intakes.Stage.TheVariants.{Taking, Unnamed}

-- the ledger is all that was told, with its samples if they are kept, as the reader of a source with this rest tells it under its gate; where that was read to an
-- ending, it was told the names of its samples in the order in which they first appear
pub record IsAllTold (keeps : Bool) (may_stop may_go : ℕ → ℕ → Type 0) (source : ℕ) (rest : Rest) (list : List Sample) (ledger : LedgerState) : Type 0 where
  pub last : Close
  pub closed : ledger.close ≡ Some last
  pub samples : keeps ≡ true → ledger.samples ≡ list
  pub is_told : IsToldUnder may_stop may_go source rest (told list last)
  pub in_order : AreNamesOf (told list last) ledger.told

-- what came out of the ring of a source was well told, and what the sink has of it is a beginning of its rest, at each sample of
-- which the gate may go; and if all was taken, the ledger is all that was told
pub record IsSettledAs (keeps : Bool) (may_stop may_go : ℕ → ℕ → Type 0) (source : ℕ) (rest : Rest) (stage : Stage) (list : List Sample) (ledger : LedgerState) : Type 0 where
  pub taken_or_dropped : stage ≢ Unnamed
  pub first : IsPrefixOf list rest.samples
  pub goes : GoesBelow may_go source (length list)
  pub whole : stage ≡ Taking → IsAllTold keeps may_stop may_go source rest list ledger

module _ {R G : Type 0} (may_stop may_go : G → ℕ → ℕ → Type 0) (gives : R → Rest → Type 0) where
  -- so for a rest that its reader may give, the same one whatever the sink has
  abbrev pub IsSettled : RunningSource R G → LedgerState → Type 0
  IsSettled started ledger =
      let promise = started.handle.promise in
      let gate = arc_value promise.gate.value in
      GivesSuch (gives promise.reader.value) (λ rest.
      (list : List Sample) → Tracks started.intake list → IsSettledAs started.intake.origin.keeps (may_stop gate) (may_go gate) promise.source rest started.intake.stage list ledger)

  pub record AreSettled (all : List (RunningSource R G)) (ledgers : List LedgerState) : Type 0 where
    pub count : length ledgers ≡ length all
    pub each : (source : ℕ) (started : RunningSource R G) (ledger : LedgerState) → slice_get all source ≡ Some started → slice_get ledgers source ≡ Some ledger → IsSettled started ledger

-- what was received is a beginning of what was sent, and the ledger is closed as the ring was
pub record IsReceived (sent : List RingRecord) (intake : Intake) (ledger : LedgerState) : Type 0 where
  pub begins : IsPrefixOf (records_of_all (received intake.consumer)) sent
  pub closed : ledger ≡ record intake.ledger { close = intake.close }

-- the lists that ledgers hand out
pub record AreListsOf (ledgers : List LedgerState) (lists : List ListState) : Type 0 where
  pub samples : map (λ list. list.samples) lists ≡ map (λ ledger. ledger.samples) ledgers
  pub closes : map (λ list. Some (Read list.ending)) lists ≡ map (λ ledger. ledger.close) ledgers
  pub names : map (λ list. list.told) lists ≡ map (λ ledger. ledger.told) ledgers
