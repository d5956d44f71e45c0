-- What a failed run says of the sources and of the output, by its plan.
use Rattle.std.specs.Prelude.{◌≡◌, ℕ, Bool, List, true, false, Option, Result, Ok, Err}
use Rattle.std.specs.Io.KnownBytes.{Keeps}
use Rattle.stack_core.specs.Ledgers.{ListState}
use Rattle.command_line.specs.declared.plans.Plan.{Plan}
use Rattle.byte_io.specs.Pieces.{AppendsFront}
use Rattle.source_views.specs.Failures.{has_fault, status_of}
use Rattle.source_views.specs.declared.failures.Failure.{Failure}
use Rattle.source_views.specs.declared.failures.Failure.TheVariants.{TooManyFiles, Unreadable, TooLarge, OutOfMemory, NoThread, Unfinished, Faults, Output}
use Rattle.run_options.specs.declared.formats.Format.{Format}
use Rattle.flame_tool.specs.Runs.{HasGrown, HasNotGrown, ShowsFront}
use Rattle.flame_tool.specs.StrictRuns.{HasPlainFault}

-- the exit status of a run that showed what was asked for, with functions whose share grew by more than its limit or with none, or
-- failed
abbrev pub exit_status : Result Bool Failure → ℕ
exit_status (Ok true) = 4
exit_status (Ok false) = 0
exit_status (Err failure) = status_of failure

-- what a run tells of the functions of its sources: whether some grew over the limit
abbrev pub TellsGrowth : Bool → Plan → List (Format × List ℕ) → Type 0
TellsGrowth true plan sources = HasGrown plan sources
TellsGrowth false plan sources = HasNotGrown plan sources

-- the output is as it was, unless a text was not sent whole
abbrev pub KeepsOutput : Option (List ℕ) → Option (List ℕ) → Failure → Type 0
KeepsOutput old new TooManyFiles = Keeps old new
KeepsOutput old new (Unreadable source) = Keeps old new
KeepsOutput old new (TooLarge source) = Keeps old new
KeepsOutput old new OutOfMemory = Keeps old new
KeepsOutput old new NoThread = Keeps old new
KeepsOutput old new (Unfinished source) = Keeps old new
KeepsOutput old new Faults = Keeps old new
KeepsOutput old new (Output fault) = Unit {0}

-- what a failed run of the plan says of the sources and of the output
abbrev pub Fails : Plan → Option (List ℕ) → Option (List ℕ) → Failure → List (Format × List ℕ) → Type 0
Fails plan old new TooManyFiles sources = Unit {0}
Fails plan old new (Unreadable source) sources = Unit {0}
Fails plan old new (TooLarge source) sources = Unit {0}
Fails plan old new OutOfMemory sources = Unit {0}
Fails plan old new NoThread sources = Unit {0}
Fails plan old new (Unfinished source) sources = Unit {0}
Fails plan old new Faults sources = HasPlainFault plan sources
Fails plan old new (Output fault) sources = ShowsFront plan old new sources

-- what a failed run that is strict says of its sources, of which one has a strict fault or none has
abbrev pub FailsStrictly : Bool → Failure → Type 0
FailsStrictly faulty TooManyFiles = Unit {0}
FailsStrictly faulty (Unreadable source) = Unit {0}
FailsStrictly faulty (TooLarge source) = Unit {0}
FailsStrictly faulty OutOfMemory = Unit {0}
FailsStrictly faulty NoThread = Unit {0}
FailsStrictly faulty (Unfinished source) = Unit {0}
FailsStrictly faulty Faults = faulty ≡ true
FailsStrictly faulty (Output fault) = faulty ≡ false

-- a text of lists was not sent whole: for want of memory, for a fault in a list, or since its sending failed
abbrev pub FailsToShow : List ListState → List ℕ → Option (List ℕ) → Option (List ℕ) → Failure → Type 0
FailsToShow lists text old new TooManyFiles = ⊥
FailsToShow lists text old new (Unreadable source) = ⊥
FailsToShow lists text old new (TooLarge source) = ⊥
FailsToShow lists text old new OutOfMemory = Keeps old new
FailsToShow lists text old new NoThread = ⊥
FailsToShow lists text old new (Unfinished source) = ⊥
FailsToShow lists text old new Faults = (has_fault lists ≡ true) × Keeps old new
FailsToShow lists text old new (Output fault) = (has_fault lists ≡ false) × AppendsFront text old new
