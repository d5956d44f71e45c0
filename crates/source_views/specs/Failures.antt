-- What each failure of a run says of its output, and the exit status that it has.
use Rattle.std.specs.Prelude.{◌≡◌, ◌⊎◌, ℕ, ◌<◌, List, Bool, true, false, Option, Result, MatchResult}
use Rattle.std.specs.List.{list_any}
use Rattle.std.specs.Io.KnownBytes.{Appends, Keeps}
use Rattle.stack_core.specs.Ledgers.{ListState}
use Rattle.stack_core.specs.declared.endings.SourceEnd.{SourceEnd}
use Rattle.stack_core.specs.declared.endings.SourceEnd.TheVariants as ends
use Rattle.ring_collect.specs.declared.faults.CollectFault.{CollectFault}
use Rattle.ring_collect.specs.declared.faults.CollectFault.TheVariants as collect
use Rattle.source_lists.specs.declared.run_faults.RunFault.{RunFault}
use Rattle.source_lists.specs.declared.run_faults.RunFault.TheVariants as run
use Rattle.byte_io.specs.declared.whole_input.LoadFault.{LoadFault}
use Rattle.byte_io.specs.declared.whole_input.LoadFault.TheVariants as load
use Rattle.byte_io.specs.declared.piece_output.PieceFault.TheVariants as piece
use Rattle.byte_io.specs.Calls.{one_more}
use Rattle.byte_io.specs.Pieces.{AppendsFront}
use Rattle.source_views.specs.declared.failures.Failure.{Failure}
use Rattle.source_views.specs.declared.failures.Failure.TheVariants.{TooManyFiles, Unreadable, TooLarge, OutOfMemory, NoThread, Unfinished, Faults, Output}

abbrev pub ends_in_fault : SourceEnd → Bool
ends_in_fault (ends.Clean ignored) = false
ends_in_fault (ends.Fault fault) = true
ends_in_fault (ends.Stopped after) = false

-- a list ends in a fault
abbrev pub has_fault : List ListState → Bool
has_fault lists = list_any (λ list. ends_in_fault list.ending) lists

-- why a text was not sent whole, and what of it was: nothing for want of memory before, or else a front of it
abbrev pub IsUnsent : List ℕ → Option (List ℕ) → Option (List ℕ) → Failure → Type 0
IsUnsent text old new TooManyFiles = ⊥
IsUnsent text old new (Unreadable source) = ⊥
IsUnsent text old new (TooLarge source) = ⊥
IsUnsent text old new OutOfMemory = Keeps old new
IsUnsent text old new NoThread = ⊥
IsUnsent text old new (Unfinished source) = ⊥
IsUnsent text old new Faults = ⊥
IsUnsent text old new (Output fault) = AppendsFront text old new

-- the text was sent whole, or was not
abbrev pub Sends : {T : Type 0} → List ℕ → Option (List ℕ) → Option (List ℕ) → Result T Failure → Type 0
Sends text old new result = MatchResult result (λ _. Appends old new text) (IsUnsent text old new)

-- a call of the output failed where that is why the text was not sent, and no call failed otherwise
abbrev pub CountsFailure : ℕ → ℕ → Failure → Type 0
CountsFailure old new TooManyFiles = new ≡ old
CountsFailure old new (Unreadable source) = new ≡ old
CountsFailure old new (TooLarge source) = new ≡ old
CountsFailure old new OutOfMemory = new ≡ old
CountsFailure old new NoThread = new ≡ old
CountsFailure old new (Unfinished source) = new ≡ old
CountsFailure old new Faults = new ≡ old
CountsFailure old new (Output piece.OutOfMemory) = new ≡ old
CountsFailure old new (Output piece.Output) = new ≡ one_more old

-- what was sent was flushed, and no call of the output failed but the one that ended it
abbrev pub Flushes : {T : Type 0} → Type 0 → ℕ → ℕ → Result T Failure → Type 0
Flushes flushed old new result = MatchResult result (λ _. flushed × (new ≡ old)) (CountsFailure old new)

-- the source is one of so many files, or the input where there is no file
abbrev pub IsAsked : ℕ → ℕ → Type 0
IsAsked count source = (source < count) ⊎ ((count ≡ 0) × (source ≡ 0))

-- the failure came before anything was collected: a source that was asked for was not loaded, and so many files are too many
-- only above 64
abbrev pub IsOpening : ℕ → Failure → Type 0
IsOpening count TooManyFiles = 64 < count
IsOpening count (Unreadable source) = IsAsked count source
IsOpening count (TooLarge source) = IsAsked count source
IsOpening count OutOfMemory = Unit {0}
IsOpening count NoThread = ⊥
IsOpening count (Unfinished source) = ⊥
IsOpening count Faults = ⊥
IsOpening count (Output fault) = ⊥

-- the exit status of a failed run: 1 where a source has a fault, 2 where there are too many
abbrev pub status_of : Failure → ℕ
status_of TooManyFiles = 2
status_of (Unreadable source) = 3
status_of (TooLarge source) = 3
status_of OutOfMemory = 3
status_of NoThread = 3
status_of (Unfinished source) = 3
status_of Faults = 1
status_of (Output fault) = 3

-- the failure of a run for which the source could not be loaded
abbrev pub failure_of_load : ℕ → LoadFault → Failure
failure_of_load source load.Io = Unreadable source
failure_of_load source load.TooLarge = TooLarge source
failure_of_load source load.OutOfMemory = OutOfMemory

-- the failure is that of a run for which this source, and no other one, could not be loaded
abbrev pub IsOfLoad : ℕ → Failure → Type 0
IsOfLoad source failure = (fault : LoadFault) × (failure ≡ failure_of_load source fault)

-- the failure of a run whose sources could not be collected
abbrev pub failure_of_collect : CollectFault → Failure
failure_of_collect collect.OutOfMemory = OutOfMemory
failure_of_collect collect.NoThread = NoThread
failure_of_collect (collect.Unfinished source) = Unfinished source

-- the failure of a run whose sources could not be read
abbrev pub failure_of_run : RunFault → Failure
failure_of_run (run.Collect fault) = failure_of_collect fault
failure_of_run (run.Unreadable source) = Unreadable source
