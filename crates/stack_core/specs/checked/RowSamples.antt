-- What is awaited, by the step that gave it.
use Rattle.std.specs.Prelude.{◌≤◌, ℕ, List, length, All, Option, None, Some}
use Rattle.sample_tables.specs.declared.samples.TheConstants.{FRAME_LIMIT}
use Rattle.stack_core.specs.RowSamples.{Awaiting, Nothing, IsStepBehind, stacks_with, given_by}
use Rattle.stack_core.specs.declared.readers.RowStep.{RowStep}

-- the stack of a step that is not handed on is not kept yet
abbrev pub awaiting_by : List (List ℕ) → Option RowStep → Awaiting
awaiting_by kept None = record { stacks = kept; awaited = Nothing }
awaiting_by kept (Some step) = record { stacks = stacks_with kept step; awaited = given_by kept step }

abbrev pub AreKept : List (List ℕ) → Option RowStep → Type 0
AreKept kept None = All (λ frames. length frames ≤ FRAME_LIMIT) kept
AreKept kept (Some step) = All (λ frames. length frames ≤ FRAME_LIMIT) kept × IsStepBehind kept step
