-- What a reader of sums still may give, and what it does in one step.
use Rattle.std.specs.Prelude.{◌≡◌, ◌+◌, ◌*◌, ◌<◌, ◌≤◌, ℕ, suc, Bool, true, cond, min, List, [], ◌∷◌, All, Option, Some, None, length, sum_by}
use Rattle.merged_stacks.specs.Timeline.{Stack}
use Rattle.sample_tables.specs.Rows.{ToldRows, stack_at}
use Rattle.sample_tables.specs.declared.samples.Sample.{Sample}
use Rattle.sample_tables.specs.declared.samples.TheConstants.{WEIGHT_LIMIT}
use Rattle.stack_core.specs.Reading.{Rest}
use Rattle.stack_core.specs.Records.{names_at}
use Rattle.stack_core.specs.RowReading.{GivesSuch, StepsAmong}
use Rattle.stack_core.specs.declared.endings.SourceEnd.{SourceEnd}
use Rattle.stack_core.specs.declared.readers.RowStep.{RowStep}
use Rattle.stack_core.specs.declared.readers.RowStep.TheVariants as step

-- the weights times the numbers of their rows, which count from 0, as one sum
abbrev pub weigh : (ℕ → ℕ) → List ℕ → ℕ
weigh number [] = 0
weigh number (weight ∷ weights) = number 0 * weight + weigh (λ row. number (suc row)) weights

-- how many sums are still to be given: those that are not 0
abbrev pub pending : List ℕ → ℕ
pending sums = sum_by (λ sum. min sum 1) sums

-- the weights of samples times the numbers of their stacks, as one sum
abbrev pub worth : (Stack → ℕ) → List Sample → ℕ
worth number samples = sum_by (λ sample. number sample.stack * sample.weight) samples

-- the number that the stack of a row has
abbrev pub number_of_row : (Stack → ℕ) → ToldRows → ℕ → ℕ
number_of_row number told row = number (names_at told.names (stack_at told.stacks row))

-- what is found of a rest where samples before it were left out, whose weights the sums have
pub record IsLeft (told : ToldRows) (sums : List ℕ) (rest found : Rest) : Type 0 where
  pub weights : (number : Stack → ℕ) → worth number found.samples ≡ weigh (number_of_row number told) sums + worth number rest.samples
  pub ending : found.ending ≡ rest.ending
  pub count : length found.samples ≤ pending sums + length rest.samples

-- what it may give, over a reader that may give these rests
abbrev pub GivesLeft : (Rest → Type 0) → ToldRows → List ℕ → Rest → Type 0
GivesLeft gives told sums found = GivesSuch gives (λ rest. IsLeft told sums rest found)

-- the reader has answered its ending, and each sum was given
pub record AreAllGiven (has_ended : Type 0) (gives : Rest → Type 0) (sums : List ℕ) : Type 0 where
  pub reader : has_ended
  pub none : (rest : Rest) → gives rest → rest.samples ≡ []
  pub given : pending sums ≡ 0

-- each stack that was told has names that were told
abbrev pub HaveNames : ToldRows → Type 0
HaveNames told = All (λ frames. All (λ number. number < length told.names) frames) told.stacks

-- it gives a step, or leaves a sample out
abbrev pub PassesAmong : (Rest → Type 0) → (Rest → Type 0) → ToldRows → Option RowStep → ToldRows → Type 0
PassesAmong old new told None told' = ((rest : Rest) → new rest → old rest) × (told' ≡ told)
PassesAmong old new told (Some step) told' = StepsAmong old new told step told'

-- sums that weigh the same, no more than those up to a row, and that one among them if there was memory
pub record Grows (row : ℕ) (old : List ℕ) (has_place : Bool) (new : List ℕ) : Type 0 where
  pub place : has_place ≡ true → row < length new
  pub rows : (count : ℕ) → row < count → length old ≤ count → length new ≤ count
  pub limits : All (λ sum. sum ≤ WEIGHT_LIMIT) old → All (λ sum. sum ≤ WEIGHT_LIMIT) new
  pub weights : (number : ℕ → ℕ) → weigh number new ≡ weigh number old
  pub given : pending new ≡ pending old

-- the weight was added to the sum of the row, or nothing was
pub record Keeps (row weight : ℕ) (old : List ℕ) (is_kept : Bool) (new : List ℕ) : Type 0 where
  pub rows : (count : ℕ) → row < count → length old ≤ count → length new ≤ count
  pub limits : All (λ sum. sum ≤ WEIGHT_LIMIT) new
  pub weights : (number : ℕ → ℕ) → weigh number new ≡ weigh number old + cond is_kept (number row * weight) 0
  pub given : pending new ≤ pending old + cond is_kept 1 0

-- the sum of this row was taken out
pub record TakesSum (row weight : ℕ) (old new : List ℕ) : Type 0 where
  pub known : row < length old
  pub limit : weight ≤ WEIGHT_LIMIT
  pub rows : length new ≤ length old
  pub limits : All (λ sum. sum ≤ WEIGHT_LIMIT) new
  pub weights : (number : ℕ → ℕ) → weigh number old ≡ number row * weight + weigh number new
  pub given : pending old ≡ suc (pending new)

-- there were no sums that were not 0
pub record HasNoSum (old new : List ℕ) : Type 0 where
  pub weights : (number : ℕ → ℕ) → weigh number old ≡ 0
  pub given : pending old ≡ 0
  pub none : new ≡ []

-- behind the last sample of the reader a sum is given, or its ending
abbrev pub Ends : SourceEnd → List ℕ → RowStep → List ℕ → Type 0
Ends ending old (step.New names frames weight) new = ⊥
Ends ending old (step.Again row weight) new = TakesSum row weight old new
Ends ending old (step.End last) new = (last ≡ ending) × HasNoSum old new
