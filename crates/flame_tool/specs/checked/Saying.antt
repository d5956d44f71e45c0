-- What was told on standard error before a run ended.
use Rattle.std.specs.Prelude.{◌⊎◌, ℕ, Bool, true, false, List, [], Option, IfSome, Result, Ok, Err}
use Rattle.run_options.specs.declared.formats.Format.{Format}
use Rattle.command_line.specs.declared.plans.Plan.{Plan}
use Rattle.stack_core.specs.declared.endings.SourceEnd.{SourceEnd}
use Rattle.source_views.specs.Messages.{Tells, message_of_ending, said_of_each}
use Rattle.source_views.specs.declared.failures.Failure.{Failure}
use Rattle.source_views.specs.declared.failures.Failure.TheVariants.{TooManyFiles, Unreadable, TooLarge, OutOfMemory, NoThread, Unfinished, Faults, Output}
use Rattle.flame_tool.specs.ToldRuns.{TellsGrown, TellsProfile, TellsSources}

-- the message of each ending was told, in order, and nothing else
abbrev pub TellsEndings : List (List ℕ) → Option (List ℕ) → Option (List ℕ) → ℕ → ℕ → List SourceEnd → Type 0
TellsEndings files old new before after endings =
    Tells (said_of_each (message_of_ending files) 0 endings) old new before after

-- before a failure: all of a fault, and of other failures nothing or all
abbrev pub SaidBefore : Type 0 → Type 0 → Failure → Type 0
SaidBefore none all TooManyFiles = Unit {0}
SaidBefore none all (Unreadable source) = none ⊎ all
SaidBefore none all (TooLarge source) = none ⊎ all
SaidBefore none all OutOfMemory = none ⊎ all
SaidBefore none all NoThread = none ⊎ all
SaidBefore none all (Unfinished source) = none ⊎ all
SaidBefore none all Faults = all
SaidBefore none all (Output fault) = none ⊎ all

-- what was told of sources whose samples were shown, or were to be
abbrev pub SaidOfSources : Option (List ℕ) → Option (List ℕ) → ℕ → ℕ → Plan → Option (List (Format × List ℕ)) → Result Bool Failure → Type 0
SaidOfSources old new before after plan known (Ok true) = IfSome known (TellsGrown plan old new before after)
SaidOfSources old new before after plan known (Ok false) = IfSome known (TellsSources plan old new before after)
SaidOfSources old new before after plan known (Err failure) =
    SaidBefore (Tells [] old new before after) (IfSome known (TellsSources plan old new before after)) failure

-- what was told of a profile whose sample types were shown, or were to be
abbrev pub SaidOfTypes : Option (List ℕ) → Option (List ℕ) → ℕ → ℕ → List (List ℕ) → Option (List ℕ) → Result Bool Failure → Type 0
SaidOfTypes old new before after files known (Ok is_over) = Tells [] old new before after
SaidOfTypes old new before after files known (Err TooManyFiles) = Unit {0}
SaidOfTypes old new before after files known (Err (Unreadable source)) = Tells [] old new before after
SaidOfTypes old new before after files known (Err (TooLarge source)) = Tells [] old new before after
SaidOfTypes old new before after files known (Err OutOfMemory) = Tells [] old new before after
SaidOfTypes old new before after files known (Err NoThread) = Tells [] old new before after
SaidOfTypes old new before after files known (Err (Unfinished source)) = Tells [] old new before after
SaidOfTypes old new before after files known (Err Faults) = IfSome known (TellsProfile files old new before after)
SaidOfTypes old new before after files known (Err (Output fault)) = Tells [] old new before after
