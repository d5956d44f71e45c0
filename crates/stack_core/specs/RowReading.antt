-- What a reader of rows gives: each name once, each stack by the numbers of its names, and a stack that was told before by its own number.
use Rattle.std.specs.Prelude.{◌≡◌, ◌<◌, ◌≤◌, ℕ, List, [], ◌∷◌, ◌++◌, length, All}
use Rattle.sample_tables.specs.Rows.{ToldRows, stack_at}
use Rattle.stack_core.specs.NamesInOrder.{with_stack}
use Rattle.stack_core.specs.Reading.{Rest}
use Rattle.stack_core.specs.Records.{names_at}
use Rattle.stack_core.specs.declared.endings.SourceEnd.{SourceEnd}
use Rattle.stack_core.specs.declared.readers.RowStep.{RowStep}
use Rattle.stack_core.specs.declared.readers.RowStep.TheVariants as step
use Rattle.sample_tables.specs.declared.samples.Sample.{Sample}
use Rattle.sample_tables.specs.declared.samples.TheConstants.{FRAME_LIMIT, WEIGHT_LIMIT}

-- the sample of a stack of numbers
abbrev pub sample_by : List (List ℕ) → List ℕ → ℕ → Sample
sample_by names frames weight = record { stack = names_at names frames; weight = weight }

-- the sample comes off the front
pub record Gives (sample : Sample) (old new : Rest) : Type 0 where
  pub samples : old.samples ≡ sample ∷ new.samples
  pub ending : new.ending ≡ old.ending

-- a sample whose stack is told: first those of its names that are new, in the order in which they stand in it
pub record TellsNew (told told' : ToldRows) (names : List (List ℕ)) (frames : List ℕ) (weight : ℕ) (old new : Rest) : Type 0 where
  pub names_told : told'.names ≡ told.names ++ names
  pub in_order : told'.names ≡ with_stack told.names (names_at told'.names frames)
  pub numbers : All (λ k. k < length told'.names) frames
  pub stacks : told'.stacks ≡ told.stacks ++ frames ∷ []
  pub gives : Gives (sample_by told'.names frames weight) old new

-- a sample with a stack that was told before
pub record TellsAgain (told told' : ToldRows) (row weight : ℕ) (old new : Rest) : Type 0 where
  pub known : row < length told.stacks
  pub same : told' ≡ told
  pub gives : Gives (sample_by told.names (stack_at told.stacks row) weight) old new

-- there is no sample, and the ending is answered
pub record TellsEnd (told told' : ToldRows) (ending : SourceEnd) (old new : Rest) : Type 0 where
  pub same : told' ≡ told
  pub none : old.samples ≡ []
  pub last : old.ending ≡ ending
  pub left : new ≡ old

abbrev pub StepsByRows : ToldRows → Rest → RowStep → ToldRows → Rest → Type 0
StepsByRows told old (step.New names frames weight) told' new = TellsNew told told' names frames weight old new
StepsByRows told old (step.Again row weight) told' new = TellsAgain told told' row weight old new
StepsByRows told old (step.End ending) told' new = TellsEnd told told' ending old new

-- it may give a rest of which this holds
pub record GivesSuch (gives : Rest → Type 0) (Holds : Rest → Type 0) : Type 0 where
  pub rest : Rest
  pub is_given : gives rest
  pub holds : Holds rest

-- there is a rest that it may give
pub record GivesSome (gives : Rest → Type 0) : Type 0 where
  pub rest : Rest
  pub is_given : gives rest

-- for each rest that it may give after the step, it might have given one before of which the step comes off
abbrev pub StepsAmong : (Rest → Type 0) → (Rest → Type 0) → ToldRows → RowStep → ToldRows → Type 0
StepsAmong old new told step told' = (after : Rest) → new after → GivesSuch old (λ before. StepsByRows told before step told' after)

abbrev pub IsLastStep : RowStep → Type 0
IsLastStep (step.New names frames weight) = ⊥
IsLastStep (step.Again row weight) = ⊥
IsLastStep (step.End ending) = Unit {0}

-- at most 4,096 frames, and a weight of at most 2^56-1
abbrev pub IsLimitedStep : RowStep → Type 0
IsLimitedStep (step.New names frames weight) = (length frames ≤ FRAME_LIMIT) × (weight ≤ WEIGHT_LIMIT)
IsLimitedStep (step.Again row weight) = weight ≤ WEIGHT_LIMIT
IsLimitedStep (step.End ending) = Unit {0}
