-- What the collecting thread does with a record of a source: checked, not to be believed.
use Rattle.std.specs.Prelude.{◌≡◌, ◌<◌, ◌++◌, ◌⊎◌, ℕ, Bool, true, if◌then◌else◌, List, [], ◌∷◌, length, All, Option, Some, map}
use Rattle.stack_core.specs.Ledgers.{LedgerState, keeping, with_again, with_row}
use Rattle.sample_tables.specs.Rows.{named, row_by}
use Rattle.stack_core.specs.Interleaving.{sources_of}
use Rattle.sample_tables.specs.declared.samples.Sample.{Sample}
use Rattle.stack_core.specs.declared.endings.Close.{Close}
use Rattle.stack_core.specs.declared.records.RingRecord.{RingRecord}
use Rattle.stack_core.specs.declared.records.RingRecord.TheVariants.{Name, Row, Again, Close as CloseRecord}
use Rattle.ring_collect.specs.declared.intakes.Origin.{Origin}
use Rattle.ring_collect.specs.declared.intakes.Stage.{Stage}
use Rattle.ring_collect.specs.declared.intakes.Stage.TheVariants.{Taking, Dropping, Unnamed}

-- the pairs of a source and its items
abbrev pub of_one : {A : Type 0} → ℕ → List A → List (ℕ × A)
of_one source items = map (λ item. (source, item)) items

-- each number of a row has a name, and the number of a row that is told again is that of a stack
abbrev pub IsNamed : List (List ℕ) → List (List ℕ) → RingRecord → Type 0
IsNamed told stacks (Name name) = Unit {0}
IsNamed told stacks (Row frames weight) = All (λ number. number < length told) frames
IsNamed told stacks (Again row weight) = row < length stacks
IsNamed told stacks (CloseRecord last) = Unit {0}

-- the sample that a record stands for, if it is a row or one that is told again
abbrev pub samples_in : List (List ℕ) → List (List ℕ) → RingRecord → List Sample
samples_in told stacks (Name name) = []
samples_in told stacks (Row frames weight) = named told (record { frames = frames; weight = weight }) ∷ []
samples_in told stacks (Again row weight) = named told (row_by stacks (record { stack = row; weight = weight })) ∷ []
samples_in told stacks (CloseRecord last) = []

-- what a ledger is after a record: it takes the sample that the record stands for, where samples are kept
abbrev pub ledger_after : Bool → LedgerState → RingRecord → LedgerState
ledger_after keeps ledger (Name name) = record ledger { told = ledger.told ++ name ∷ [] }
ledger_after keeps ledger (Row frames weight) = if keeps then with_row ledger (record { frames = frames; weight = weight }) else keeping ledger frames
ledger_after keeps ledger (Again row weight) = if keeps then with_again ledger row weight else ledger
ledger_after keeps ledger (CloseRecord last) = ledger

abbrev pub close_after : Option Close → RingRecord → Option Close
close_after close (Name name) = close
close_after close (Row frames weight) = close
close_after close (Again row weight) = close
close_after close (CloseRecord last) = Some last

-- a record is taken: by the ledger, and where it stands for a sample by the sink, and by the order too where samples are kept. Where there
-- is want of memory the sink may have its sample. A number without a name, or without a stack, is not taken
pub data TakesRecord (origin : Origin) (one : RingRecord) (ledger ledger' : LedgerState) (close close' : Option Close) (taken taken' : List (ℕ × Sample)) (order order' : List ℕ) (stage : Stage) : Type 0 where
  RecordTaken : stage ≡ Taking → IsNamed ledger.told ledger.stacks one → ledger' ≡ ledger_after origin.keeps ledger one → close' ≡ close_after close one
      → taken' ≡ taken ++ of_one origin.number (samples_in ledger.told ledger.stacks one) → (origin.keeps ≡ true → order' ≡ order ++ sources_of (of_one origin.number (samples_in ledger.told ledger.stacks one)))
      → TakesRecord origin one ledger ledger' close close' taken taken' order order' stage
  RecordRefused : stage ≡ Dropping → close' ≡ close_after close one → (taken' ≡ taken) ⊎ (taken' ≡ taken ++ of_one origin.number (samples_in ledger.told ledger.stacks one))
      → TakesRecord origin one ledger ledger' close close' taken taken' order order' stage
  RecordUnnamed : stage ≡ Unnamed → (IsNamed ledger.told ledger.stacks one → ⊥) → close' ≡ close_after close one → taken' ≡ taken → order' ≡ order
      → TakesRecord origin one ledger ledger' close close' taken taken' order order' stage
