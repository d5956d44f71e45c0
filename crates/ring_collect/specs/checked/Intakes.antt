-- What the collecting thread has of a source: checked, not to be believed.
use Rattle.std.specs.Prelude.{◌≡◌, ◌≢◌, ◌++◌, ℕ, Bool, true, List, [], ◌∷◌, Option, Some, None, map}
use Rattle.rtrb.specs.Ring.{received, known_items}
use Rattle.rtrb.specs.declared.consumer.Consumer.{Consumer}
use Rattle.stack_core.specs.Ledgers.{LedgerState}
use Rattle.stack_core.specs.Records.{stands_for, names_told, stacks_told, IsWellTold}
use Rattle.stack_core.specs.Interleaving.{sources_of}
use Rattle.stack_core.specs.Prefixes.{IsPrefixOf}
use Rattle.sample_tables.specs.declared.samples.Sample.{Sample}
use Rattle.stack_core.specs.declared.endings.Close.{Close}
use Rattle.stack_core.specs.declared.endings.Item.{Item}
use Rattle.stack_core.specs.declared.endings.Item.TheVariants as item
use Rattle.stack_core.specs.declared.records.RingRecord.{RingRecord}
use Rattle.ring_collect.specs.checked.Batches.{records_of_all}
use Rattle.ring_collect.specs.checked.Records.{of_one}
use Rattle.ring_collect.specs.declared.batches.Batch.{Batch}
use Rattle.ring_collect.specs.declared.intakes.Intake.{Intake}
use Rattle.ring_collect.specs.declared.intakes.Origin.{Origin}
use Rattle.ring_collect.specs.declared.intakes.Stage.{Stage}
use Rattle.ring_collect.specs.declared.intakes.Stage.TheVariants.{Taking, Dropping, Unnamed}

-- a batch came out of the ring
abbrev pub PopsOne : {A P : Type 0} → Consumer Batch A P → Consumer Batch A P → Type 0
PopsOne old new = (one : Batch) × (received new ≡ received old ++ one ∷ [])

-- no batch was known to be in the ring
abbrev pub FindsNothing : {A P : Type 0} → Consumer Batch A P → Consumer Batch A P → Type 0
FindsNothing old new = (received new ≡ received old) × (known_items new ≡ [])

-- the item that a close is, if there is one
abbrev pub close_items : Option Close → List Item
close_items None = []
close_items (Some close) = item.Close close ∷ []

-- the ledger has what the records told: their names, their stacks, and the samples that they stand for, if samples are kept
pub record HoldsAll (keeps : Bool) (records : List RingRecord) (ledger : LedgerState) (samples list : List Sample) : Type 0 where
  pub is_open : ledger.close ≡ None
  pub told : ledger.told ≡ names_told records
  pub kept : ledger.stacks ≡ stacks_told records
  pub ledger_samples : keeps ≡ true → ledger.samples ≡ samples
  pub all_taken : list ≡ samples
  pub well_told : IsWellTold records

-- the records of a ring stand for samples, and then the close if it came; of these samples the sink has the first ones, and all
-- of them as long as the records are taken. Where a number without a name came they are not well told
pub record Tracked (keeps : Bool) (records : List RingRecord) (close : Option Close) (ledger : LedgerState) (stage : Stage) (list : List Sample) : Type 0 where
  pub samples : List Sample
  pub stands : stands_for records ≡ map item.Sample samples ++ close_items close
  pub first : IsPrefixOf list samples
  pub holds : stage ≡ Taking → HoldsAll keeps records ledger samples list
  pub unnamed : stage ≡ Unnamed → IsWellTold records → ⊥

abbrev pub Tracks : Intake → List Sample → Type 0
Tracks intake list = Tracked intake.origin.keeps (records_of_all (received intake.consumer)) intake.close intake.ledger intake.stage list

-- the sink has some samples more of the source, and what is tracked says so; where it went well and samples are kept, the order has their
-- source too
pub record GainsMore (origin : Origin) (tracks : List Sample → Type 0) (list : List Sample) (taken taken' : List (ℕ × Sample)) (order order' : List ℕ) (went_well : Type 0) : Type 0 where
  pub more : List Sample
  pub tracked : tracks (list ++ more)
  pub gains : taken' ≡ taken ++ of_one origin.number more
  pub ordered : went_well → origin.keeps ≡ true → order' ≡ order ++ sources_of (of_one origin.number more)

-- what the sink has some samples more of, when these records came behind any others and no close came before
abbrev pub Brings : List RingRecord → Intake → Intake → List (ℕ × Sample) → List (ℕ × Sample) → List ℕ → List ℕ → Type 0
Brings records old new taken taken' order order' =
    (before : List RingRecord) (list : List Sample) → Tracked old.origin.keeps before None old.ledger old.stage list
    → GainsMore old.origin (Tracked old.origin.keeps (before ++ records) new.close new.ledger new.stage) list taken taken' order order' (new.stage ≢ Dropping)
