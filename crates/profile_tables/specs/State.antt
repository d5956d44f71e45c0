-- A reader as contracts see it.
use Rattle.std.specs.Prelude.{◌≡◌, ◌≢◌, ℕ, Bool, List, Option, None, [], IsTrue, if◌then◌else◌}
use Rattle.stack_core.specs.declared.endings.SourceEnd.TheVariants.{Stopped}
use Rattle.stack_core.specs.declared.readers.RowStep.{RowStep}
use Rattle.stack_core.specs.declared.readers.RowStep.TheVariants as row
use Rattle.stack_core.specs.declared.readers.Step.{Step}
use Rattle.stack_core.specs.declared.readers.Step.TheVariants as step
use Rattle.stack_core.specs.Reading.{Rest, IsSourceLimited}
use Rattle.sample_tables.specs.Rows.{ToldRows}
use Rattle.run_options.specs.declared.choices.Pick.{Pick}
use Rattle.run_options.specs.declared.choices.Naming.{Naming}
use Rattle.profile_messages.specs.SampleTypes.{chosen_type}
use Rattle.profile_tables.specs.Samples.{read_pprof}
use Rattle.profile_messages.specs.declared.types.SampleType.{SampleType}

pub record State : Type 0 where
  -- what it still has to give
  pub rest : Rest
  -- the names and stacks that it told
  pub told : ToldRows
  -- it has answered the ending
  pub has_ended : Bool
  -- the sample type of its file's chosen value
  pub chosen_type : Option SampleType
  -- it has read the tables
  pub has_tables : Bool

abbrev pub nothing_told : ToldRows
nothing_told = record { names = []; stacks = [] }

-- a reader of a file of which nothing was read
pub record IsUnread (file : List ℕ) (pick : Pick) (naming : Naming) (state : State) : Type 0 where
  pub rest : state.rest ≡ read_pprof file pick naming
  pub told : state.told ≡ nothing_told
  pub chosen_type : state.chosen_type ≡ chosen_type file pick
  pub limits : IsSourceLimited (read_pprof file pick naming).samples
  pub unstopped : (after : ℕ) → (read_pprof file pick naming).ending ≢ Stopped after

-- the sample type that it tells
abbrev pub told_type : State → Option SampleType
told_type state = if state.has_tables then state.chosen_type else None

-- behind a sample the tables were read
abbrev pub HasRead : State → Step → Type 0
HasRead state (step.Sample sample) = IsTrue state.has_tables
HasRead state (step.End ending) = Unit {0}

abbrev pub HasReadRow : State → RowStep → Type 0
HasReadRow state (row.New names frames weight) = IsTrue state.has_tables
HasReadRow state (row.Again number weight) = IsTrue state.has_tables
HasReadRow state (row.End ending) = Unit {0}
