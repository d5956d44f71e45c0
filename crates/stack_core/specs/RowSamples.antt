-- The samples for which the steps of a reader of rows stand, made one after another.
use Rattle.std.specs.Prelude.{◌<◌, ◌≤◌, ℕ, Bool, true, false, List, [], ◌∷◌, ◌++◌, length}
use Rattle.sample_tables.specs.Rows.{Row, named, stack_at}
use Rattle.sample_tables.specs.declared.samples.TheConstants.{FRAME_LIMIT, WEIGHT_LIMIT}
use Rattle.stack_core.specs.Reading.{Rest}
use Rattle.stack_core.specs.declared.endings.SourceEnd.{SourceEnd}
use Rattle.stack_core.specs.declared.readers.RowStep.{RowStep}
use Rattle.stack_core.specs.declared.readers.RowStep.TheVariants as step

-- what the last step gave, and was not handed on yet: nothing, a sample by its row, or the ending, which stays
pub data Awaited : Type 0 where
  Nothing : Awaited
  OneRow : Row → Awaited
  Ending : SourceEnd → Awaited

-- the stacks that were told, and what is awaited
pub record Awaiting : Type 0 where
  pub stacks : List (List ℕ)
  pub awaited : Awaited

abbrev pub is_idle : Awaited → Bool
is_idle Nothing = true
is_idle (OneRow row) = false
is_idle (Ending ending) = false

abbrev pub is_at_end : Awaited → Bool
is_at_end Nothing = false
is_at_end (OneRow row) = false
is_at_end (Ending ending) = true

-- the stacks, with the one that a step tells
abbrev pub stacks_with : List (List ℕ) → RowStep → List (List ℕ)
stacks_with stacks (step.New names frames weight) = stacks ++ frames ∷ []
stacks_with stacks (step.Again row weight) = stacks
stacks_with stacks (step.End ending) = stacks

-- what a step gives, behind stacks that were told
abbrev pub given_by : List (List ℕ) → RowStep → Awaited
given_by stacks (step.New names frames weight) = OneRow (record { frames = frames; weight = weight })
given_by stacks (step.Again row weight) = OneRow (record { frames = stack_at stacks row; weight = weight })
given_by stacks (step.End ending) = Ending ending

-- a step within the limits, which names no stack that was not told
abbrev pub IsStepBehind : List (List ℕ) → RowStep → Type 0
IsStepBehind stacks (step.New names frames weight) = (length frames ≤ FRAME_LIMIT) × (weight ≤ WEIGHT_LIMIT)
IsStepBehind stacks (step.Again row weight) = (row < length stacks) × (weight ≤ WEIGHT_LIMIT)
IsStepBehind stacks (step.End ending) = Unit {0}

-- what is left, of what the reader of rows still has to give and what is awaited
abbrev pub left_with : List (List ℕ) → Awaited → Rest → Rest
left_with names Nothing rest = rest
left_with names (OneRow row) rest = record { samples = named names row ∷ rest.samples; ending = rest.ending }
left_with names (Ending ending) rest = record { samples = []; ending = ending }
