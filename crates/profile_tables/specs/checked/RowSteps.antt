-- What the next sample gives by rows.
use Rattle.std.specs.Prelude.{◌≡◌, ℕ, ◌+◌, ◌<◌, ◌≤◌, List, Option, Some, None, Result, Ok, Err}
use Rattle.sample_tables.specs.declared.samples.TheConstants.{WEIGHT_LIMIT}
use Rattle.stack_core.specs.declared.endings.ReadKind.{ReadKind}
use Rattle.stack_core.specs.declared.readers.RowStep.{RowStep}
use Rattle.stack_core.specs.declared.readers.RowStep.TheVariants as step
use Rattle.sample_tables.specs.Rows.{ToldRows}
use Rattle.stack_core.specs.RowReading.{TellsNew, TellsAgain, IsLimitedStep}
use Rattle.profile_tables.specs.declared.frames.Frames.{Frames}
use Rattle.profile_tables.specs.declared.fronts.Front.{Front}
use Rattle.profile_tables.specs.declared.outline.Outline.{Outline}
use Rattle.profile_tables.specs.declared.row_steps.KnownRow.{KnownRow}
use Rattle.profile_tables.specs.declared.tellers.NewRow.{NewRow}
use Rattle.profile_tables.specs.declared.tellers.Teller.{Teller}
use Rattle.profile_messages.specs.Message.{first}
use Rattle.profile_tables.specs.Samples.{SampleTables, sample_faults, stack_of, weight_of}
use Rattle.profile_tables.specs.checked.Fronts.{bytes_at}
use Rattle.profile_tables.specs.checked.Rests.{rest_from, ended}
use Rattle.profile_tables.specs.checked.Tellers.{told_of, IsTeller, IsStackOf, TellsStack}

-- the front's run spells the stack of this number, and its weight is within the limit
pub record IsKnown (file : List ℕ) (teller : Teller) (front : Front) (total : ℕ) (known : KnownRow) : Type 0 where
  pub weight_is : known.weight ≡ front.weight
  pub total_limit : total + known.weight ≤ WEIGHT_LIMIT
  pub spells : (frames : Frames) → IsTeller file frames teller → IsStackOf frames (told_of teller) (bytes_at file front.run) known.row

abbrev pub IsKnownBy : List ℕ → Teller → Option Front → ℕ → KnownRow → Type 0
IsKnownBy file teller None total known = ⊥
IsKnownBy file teller (Some front) total known = IsKnown file teller front total known

-- the sample has no fault and its stack is told, or the first fault is answered
abbrev pub IsToldSample : SampleTables → ℕ → List ℕ → ToldRows → ToldRows → Result NewRow ReadKind → Type 0
IsToldSample tables total sample told told' (Ok row) =
    (first (sample_faults tables total sample) ≡ None)
    × TellsStack told told' row.names row.frames (stack_of tables.frames sample)
    × (row.weight ≡ weight_of tables.chosen sample)
IsToldSample tables total sample told told' (Err kind) = (first (sample_faults tables total sample) ≡ Some kind) × (told' ≡ told)

-- the sample may follow samples of this total weight
pub record IsOneMore (past next total weight : ℕ) : Type 0 where
  pub total_limit : total + weight ≤ WEIGHT_LIMIT
  pub is_there : next < past

abbrev pub IsNextRow : List ℕ → Outline → ℕ → ℕ → ℕ → ToldRows → ToldRows → RowStep → Type 0
IsNextRow file outline past next total told told' (step.New names frames weight) =
    TellsNew told told' names frames weight (rest_from file outline past next total) (rest_from file outline past (next + 1) (total + weight))
    × IsLimitedStep (step.New names frames weight) × IsOneMore past next total weight
IsNextRow file outline past next total told told' (step.Again row weight) =
    TellsAgain told told' row weight (rest_from file outline past next total) (rest_from file outline past (next + 1) (total + weight))
    × IsLimitedStep (step.Again row weight) × IsOneMore past next total weight
IsNextRow file outline past next total told told' (step.End ending) =
    (rest_from file outline past next total ≡ ended ending) × (told' ≡ told)
