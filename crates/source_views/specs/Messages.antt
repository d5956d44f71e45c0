-- What is said on standard error: a line each.
use Rattle.std.specs.Prelude.{◌≡◌, ◌⊎◌, ℕ, ◌+◌, ◌-◌, ◌^◌, ◌<◌, ◌≤◌, ◌==◌, List, [], ◌∷◌, ◌++◌, Option, None, Some, codes, if◌then◌else◌}
use Rattle.std.specs.Fmt.{decimal}
use Rattle.std.specs.Io.KnownBytes.{Appends}
use Rattle.stack_core.specs.Faults.{fault_text}
use Rattle.stack_core.specs.declared.endings.SourceEnd.{SourceEnd}
use Rattle.stack_core.specs.declared.endings.SourceEnd.TheVariants as ends
use Rattle.folded_lines.specs.StrictReading.{strict_kind_text}
use Rattle.folded_lines.specs.declared.strictness.StrictFault.{StrictFault}
use Rattle.run_options.specs.declared.formats.Format.{Format}
use Rattle.run_options.specs.declared.formats.Format.TheVariants.{Folded, Pprof}
use Rattle.byte_io.specs.declared.piece_output.PieceFault.TheVariants as piece
use Rattle.source_views.specs.Names.{source_name}
use Rattle.source_views.specs.declared.failures.Failure.{Failure}
use Rattle.source_views.specs.declared.failures.Failure.TheVariants.{TooManyFiles, Unreadable, TooLarge, OutOfMemory, NoThread, Unfinished, Faults, Output}

-- ---- the texts

-- the line of what is said
abbrev pub message : List ℕ → List ℕ
message said = codes "flamecollect: " ++ (said ++ 10 ∷ [])

-- the line of what is said of the source at a place
abbrev pub message_of_source : List (List ℕ) → ℕ → List ℕ → List ℕ
message_of_source files at said = message (source_name files at ++ (codes ": " ++ said))

-- why a run over these files failed; faults were told before
abbrev pub message_of_failure : List (List ℕ) → Failure → List ℕ
message_of_failure files TooManyFiles = message (codes "too many files")
message_of_failure files (Unreadable source) = message_of_source files source (codes "cannot be read")
message_of_failure files (TooLarge source) = message_of_source files source (codes "too large")
message_of_failure files OutOfMemory = message (codes "out of memory")
message_of_failure files NoThread = message (codes "no thread")
message_of_failure files (Unfinished source) = message_of_source files source (codes "unfinished")
message_of_failure files Faults = []
message_of_failure files (Output piece.OutOfMemory) = message (codes "out of memory")
message_of_failure files (Output piece.Output) = message (codes "output failed")

-- how a source ended: its fault, and else how many lines were ignored, where some were
abbrev pub message_of_ending : List (List ℕ) → ℕ → SourceEnd → List ℕ
message_of_ending files at (ends.Clean ignored) =
    if ignored == 0 then [] else message_of_source files at (codes "ignored " ++ decimal ignored)
message_of_ending files at (ends.Fault fault) = message_of_source files at (fault_text fault)
message_of_ending files at (ends.Stopped after) = []

-- what is wrong with a source that is read strictly, if anything is
abbrev pub message_of_strict_fault : List (List ℕ) → ℕ → Option StrictFault → List ℕ
message_of_strict_fault files at None = []
message_of_strict_fault files at (Some fault) =
    message_of_source files at (strict_kind_text fault.kind ++ (codes " at " ++ decimal fault.at))

-- what is awaited where the input is a terminal
abbrev pub awaited_text : Format → List ℕ
awaited_text Folded = message (codes "-: awaits folded lines, which end with Ctrl-D; see flamecollect --help")
awaited_text Pprof = message (codes "-: awaits a pprof profile; see flamecollect --help")

-- what is said of each of a list, one after another, by its place, of which this is the first
abbrev pub said_of_each : {A : Type 0} → (ℕ → A → List ℕ) → ℕ → List A → List ℕ
said_of_each say at [] = []
said_of_each say at (x ∷ xs) = say at x ++ said_of_each say (at + 1) xs

-- ---- what is gained by saying them

-- a call failed in between: there were more failures, or as many as are counted
abbrev pub HasFailed : ℕ → ℕ → Type 0
HasFailed before after = (before < after) ⊎ (2 ^ 64 - 1 ≤ after)

-- known bytes gained exactly the text, and no call failed, or else one did
abbrev pub Tells : List ℕ → Option (List ℕ) → Option (List ℕ) → ℕ → ℕ → Type 0
Tells text old new before after = (Appends old new text × (after ≡ before)) ⊎ HasFailed before after
