-- What the reader thread of a source tells: checked, not to be believed.
use Rattle.std.specs.Prelude.{◌≡◌, ◌++◌, ℕ, List, [], ◌∷◌, map, Option, None, Some}
use Rattle.stack_core.specs.Reading.{Rest}
use Rattle.stack_core.specs.Records.{stands_for, names_told, stacks_told, IsWellTold}
use Rattle.sample_tables.specs.Rows.{ToldRows}
use Rattle.stack_core.specs.declared.readers.RowStep.{RowStep}
use Rattle.stack_core.specs.declared.readers.RowStep.TheVariants as step
use Rattle.stack_core.specs.Told.{IsToldUnder, told}
use Rattle.stack_core.specs.declared.endings.SourceEnd.{SourceEnd}
use Rattle.stack_core.specs.declared.endings.SourceEnd.TheVariants as ending
use Rattle.rtrb.specs.Ring.{all_sent}
use Rattle.rtrb.specs.declared.producer.Producer.{Producer}
use Rattle.rtrb.specs.declared.finished.Finished.{Finished}
use Rattle.ring_collect.specs.checked.Batches.{records_of_all}
use Rattle.ring_collect.specs.checked.Rings.{IsLeftOf}
use Rattle.ring_collect.specs.declared.batches.Batch.{Batch}
use Rattle.ring_collect.specs.NamesInOrder.{names_in_order, with_stack}
use Rattle.sample_tables.specs.declared.samples.Sample.{Sample}
use Rattle.stack_core.specs.declared.endings.Close.{Close}
use Rattle.stack_core.specs.declared.endings.Close.TheVariants as close
use Rattle.stack_core.specs.declared.endings.Item.TheVariants as item
use Rattle.stack_core.specs.declared.endings.Item.{Item}
use Rattle.stack_core.specs.declared.records.RingRecord.{RingRecord}
use Rattle.stack_core.specs.declared.records.RingRecord.TheVariants as one

-- the records go on: they stand for these items more, and are still well told
pub record Tells (items : List Item) (old new : List RingRecord) : Type 0 where
  pub stands : stands_for new ≡ stands_for old ++ items
  pub well_told : IsWellTold old → IsWellTold new

-- the names and stacks that records told
abbrev pub told_by : List RingRecord → ToldRows
told_by records = record { names = names_told records; stacks = stacks_told records }

-- the records go on by names alone
abbrev pub TellsNames : List RingRecord → List RingRecord → Type 0
TellsNames old new = (names : List (List ℕ)) × (new ≡ old ++ map one.Name names)

-- the records that tell what a reader gave
abbrev pub records_of : RowStep → List RingRecord
records_of (step.New names frames weight) = map one.Name names ++ one.Row frames weight ∷ []
records_of (step.Again row weight) = one.Again row weight ∷ []
records_of (step.End ending) = []

-- the ending, if that is what a reader gave
abbrev pub ending_of : RowStep → Option SourceEnd
ending_of (step.New names frames weight) = None
ending_of (step.Again row weight) = None
ending_of (step.End ending) = Some ending

-- the gate let the first sample of the rest go, and it is told: its row, or the number of its row, and before a row the names that its
-- stack has and that were not told. The reader has told what the records did
pub record TellsOne (may_go : ℕ → ℕ → Type 0) (source index : ℕ) (old_rest new_rest : Rest) (by_reader : ToldRows) (old new : List RingRecord) : Type 0 where
  pub sample : Sample
  pub first : old_rest.samples ≡ sample ∷ new_rest.samples
  pub ending : new_rest.ending ≡ old_rest.ending
  pub goes : may_go source index
  pub tells : Tells (item.Sample sample ∷ []) old new
  pub rows : by_reader ≡ told_by new
  pub told : names_told new ≡ with_stack (names_told old) sample.stack

-- what close comes next: that of the ending where the rest has no sample, that of a stop where the gate stopped the first, with
-- nothing told; or that of want of memory, with no sample told
pub data Closes (may_stop : ℕ → ℕ → Type 0) (source index : ℕ) (rest : Rest) (old new : List RingRecord) (last : Close) : Type 0 where
  Ended : rest.samples ≡ [] → last ≡ close.Read rest.ending → new ≡ old → Closes may_stop source index rest old new last
  Stopped : (sample : Sample) (later : List Sample) → rest.samples ≡ sample ∷ later → may_stop source index → last ≡ close.Read (ending.Stopped index) → new ≡ old
      → Closes may_stop source index rest old new last
  ShortOfMemory : last ≡ close.NoMemory → Tells [] old new → Closes may_stop source index rest old new last

-- where the items are samples that were read to an ending, these are their names in that order
abbrev pub AreNamesOf : List Item → List (List ℕ) → Type 0
AreNamesOf items names =
    (samples : List Sample) (ending : SourceEnd) → items ≡ told samples (close.Read ending) → names ≡ names_in_order samples

-- nothing stands behind the close
abbrev pub IsClosed : List RingRecord → Type 0
IsClosed records = (front : List RingRecord) × (last : Close) × (records ≡ front ++ one.Close last ∷ [])

-- well told records stand for what the reader of a source with this rest tells under its gate; where it was read to an ending, their
-- names are those of its samples in the order in which they first appear
pub record TellsAll (may_stop may_go : ℕ → ℕ → Type 0) (source : ℕ) (rest : Rest) (records : List RingRecord) : Type 0 where
  pub well_told : IsWellTold records
  pub is_told : IsToldUnder may_stop may_go source rest (stands_for records)
  pub is_closed : IsClosed records
  pub in_order : AreNamesOf (stands_for records) (names_told records)

-- what is left of a ring shows that all that was sent there is what the reader tells
pub record SentAll {A P : Type 0} (may_stop may_go : ℕ → ℕ → Type 0) (source : ℕ) (rest : Rest) (producer : Producer Batch A P) (finished : Finished Batch A P) : Type 0 where
  pub ring : IsLeftOf producer finished
  pub all : TellsAll may_stop may_go source rest (records_of_all (all_sent finished))
