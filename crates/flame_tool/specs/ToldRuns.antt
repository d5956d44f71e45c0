-- What a run says on standard error of its words and of its sources.
use Rattle.std.specs.Prelude.{◌≡◌, ◌++◌, ℕ, List, [], Option, None, Some, if◌then◌else◌, map}
use Rattle.stack_core.specs.declared.endings.SourceEnd.TheVariants as ends
use Rattle.run_options.specs.declared.formats.Format.{Format}
use Rattle.command_line.specs.declared.plans.Plan.{Plan}
use Rattle.source_views.specs.Messages.{Tells, message_of_ending, message_of_failure, message_of_strict_fault, said_of_each}
use Rattle.source_views.specs.Failures.{status_of}
use Rattle.source_views.specs.declared.failures.Failure.{Failure}
use Rattle.source_lists.specs.Sources.{asked_rests}
use Rattle.source_lists.specs.Strictness.{source_fault}
use Rattle.source_views.specs.Texts.{growth_line}
use Rattle.flame_tool.specs.Runs.{wanted_lists}
use Rattle.flame_tool.specs.TypeRuns.{table_fault}

-- ---- of the sources

-- what there is to say of sources whose samples are shown: how each ended, or, where the plan is strict, what is wrong with each
abbrev pub said_of_sources : Plan → List (Format × List ℕ) → List ℕ
said_of_sources plan sources = if plan.is_strict
    then said_of_each (message_of_strict_fault plan.files) 0 (map (source_fault plan.options) sources)
    else said_of_each (message_of_ending plan.files) 0 (map (λ rest. rest.ending) (asked_rests plan.options sources))

-- that was told, and nothing else
abbrev pub TellsSources : Plan → Option (List ℕ) → Option (List ℕ) → ℕ → ℕ → List (Format × List ℕ) → Type 0
TellsSources plan old new before after sources = Tells (said_of_sources plan sources) old new before after

-- which functions grew over the plan's limit, in a line that is empty where none did
abbrev pub said_of_growth : Plan → List (Format × List ℕ) → List ℕ
said_of_growth plan sources =
    growth_line plan.view (wanted_lists plan sources)

-- that was told behind what there is to say of the sources, and nothing else
abbrev pub TellsGrown : Plan → Option (List ℕ) → Option (List ℕ) → ℕ → ℕ → List (Format × List ℕ) → Type 0
TellsGrown plan old new before after sources =
    Tells (said_of_sources plan sources ++ said_of_growth plan sources) old new before after

-- ---- of a profile whose sample types are asked for

-- its first fault before its samples, if it has one
abbrev pub said_of_profile : List (List ℕ) → List ℕ → List ℕ
said_of_profile files profile =
    elim (table_fault profile) [ None ↦ [] | Some fault ↦ message_of_ending files 0 (ends.Fault fault) ]

abbrev pub TellsProfile : List (List ℕ) → Option (List ℕ) → Option (List ℕ) → ℕ → ℕ → List ℕ → Type 0
TellsProfile files old new before after profile = Tells (said_of_profile files profile) old new before after

-- ---- of a failure

-- why a run over these files failed, with status 3, was told behind a text, and nothing else
pub record TellsFailure (files : List (List ℕ)) (said : List ℕ) (old new : Option (List ℕ)) (before after : ℕ) : Type 0 where
  pub failure : Failure
  pub status : status_of failure ≡ 3
  pub told : Tells (said ++ message_of_failure files failure) old new before after
