-- What a reader's fields stand for.
use Rattle.std.specs.Prelude.{◌≡◌, ◌≤◌, ◌<◌, ◌^◌, ℕ, false, IsTrue, List, length, Option, Some, None, is_some, IsSome}
use Rattle.sample_tables.specs.declared.samples.TheConstants.{WEIGHT_LIMIT}
use Rattle.stack_core.specs.declared.endings.ReadFault.{ReadFault}
use Rattle.stack_core.specs.declared.endings.SourceEnd.{SourceEnd}
use Rattle.stack_core.specs.Reading.{Rest}
use Rattle.run_options.specs.declared.choices.Pick.{Pick}
use Rattle.run_options.specs.declared.choices.Naming.{Naming}
use Rattle.profile_messages.specs.SampleTypes.{chosen_type}
use Rattle.std.specs.Arc.{arc_value}
use Rattle.stack_core.specs.Parts.{bytes_of}
use Rattle.stack_core.specs.RowSamples.{Awaited, Nothing, OneRow, Ending, is_at_end, is_idle, left_with}
use Rattle.profile_tables.specs.declared.outline.Outline.{Outline}
use Rattle.profile_tables.specs.declared.part.Part.{Part}
use Rattle.profile_tables.specs.declared.reader.PprofReader.TheInside as reader
use Rattle.profile_tables.specs.declared.row_reader.PprofRows.TheInside.{Inside}
use Rattle.profile_tables.specs.Samples.{no_samples, read_pprof}
use Rattle.profile_tables.specs.checked.Rests.{rest_from, ended}
use Rattle.profile_tables.specs.checked.Tellers.{told_of, IsTeller}
use Rattle.profile_tables.specs.declared.tellers.Teller.{Teller}
use Rattle.sample_tables.specs.Rows.{ToldRows}
use Rattle.profile_tables.specs.State.{State, nothing_told}

-- before the tables were read the rest is the whole file's
abbrev pub rest_by : List ℕ → Pick → Naming → Option Part → ℕ → ℕ → Rest
rest_by file pick naming None given total = read_pprof file pick naming
rest_by file pick naming (Some part) given total = rest_from file (arc_value part.outline) part.past given total

abbrev pub rest_or_ended : Option SourceEnd → Rest → Rest
rest_or_ended None rest = rest
rest_or_ended (Some ending) rest = ended ending

abbrev pub told_by : Option Teller → ToldRows
told_by None = nothing_told
told_by (Some teller) = told_of teller

abbrev pub state_of : Inside → State
state_of a = record {
  rest = rest_or_ended a.ended (rest_by (bytes_of a.bytes) a.pick a.naming a.part a.given a.total);
  told = told_by a.teller;
  has_ended = is_some a.ended;
  chosen_type = chosen_type (bytes_of a.bytes) a.pick;
  has_tables = is_some a.part;
}

-- the type of the chosen value is the file's
abbrev pub IsTypeOf : List ℕ → Pick → Option Part → Type 0
IsTypeOf file pick None = Unit {0}
IsTypeOf file pick (Some part) = (arc_value part.outline).chosen_type ≡ chosen_type file pick

abbrev pub GivenBefore : Option Part → ℕ → ℕ → Type 0
GivenBefore None given total = (given ≡ 0) × (total ≡ 0)
GivenBefore (Some part) given total = given ≤ part.past

-- no more stacks were told than samples were given
abbrev pub IsTellerBy : List ℕ → Outline → ℕ → Option Teller → Type 0
IsTellerBy file outline given None = Unit {0}
IsTellerBy file outline given (Some teller) = IsTeller file outline.frames teller × (teller.count ≤ given)

abbrev pub IsTellerOf : List ℕ → Option Part → ℕ → Option Teller → Type 0
IsTellerOf file None given None = Unit {0}
IsTellerOf file None given (Some teller) = ⊥
IsTellerOf file (Some part) given teller = IsTellerBy file (arc_value part.outline) given teller

-- the tables are there, and nothing else is new
pub record IsOpen (file : List ℕ) (pick : Pick) (naming : Naming) (old new : Option Part) : Type 0 where
  pub opened : IsSome new
  pub rest : (given total : ℕ) → GivenBefore old given total → rest_by file pick naming new given total ≡ rest_by file pick naming old given total
  pub given : (given total : ℕ) → GivenBefore old given total → GivenBefore new given total
  pub teller : (given : ℕ) (teller : Option Teller) → IsTellerOf file old given teller → IsTellerOf file new given teller
  pub chosen : IsTypeOf file pick old → IsTypeOf file pick new

-- the same, or the file's fault is answered
abbrev pub IsOpened : List ℕ → Pick → Naming → Option Part → Option Part → Option ReadFault → Type 0
IsOpened file pick naming old new None = IsOpen file pick naming old new
IsOpened file pick naming old new (Some fault) = (old ≡ None) × (new ≡ None) × (no_samples fault ≡ read_pprof file pick naming)

-- the samples that were given are some of the file's, and weigh no more than a source may
pub record IsReader (a : Inside) : Type 0 where
  pub given : GivenBefore a.part a.given a.total
  pub total : a.total ≤ WEIGHT_LIMIT
  pub teller : IsTellerOf (bytes_of a.bytes) a.part a.given a.teller
  pub chosen : IsTypeOf (bytes_of a.bytes) a.pick a.part

-- a reader of samples, by the rows that it reads
abbrev pub reader_state : reader.Inside → State
reader_state inside = record {
  rest = left_with inside.rows.told.names inside.samples.awaited inside.rows.rest;
  told = inside.rows.told;
  has_ended = is_at_end inside.samples.awaited;
  chosen_type = inside.rows.chosen_type;
  has_tables = inside.rows.has_tables;
}

-- where a sample is awaited the tables were read
abbrev pub HasReadFor : Awaited → State → Type 0
HasReadFor Nothing rows = Unit {0}
HasReadFor (OneRow row) rows = IsTrue rows.has_tables
HasReadFor (Ending ending) rows = Unit {0}

pub record NamesRows (inside : reader.Inside) : Type 0 where
  pub stacks : inside.rows.told.stacks ≡ inside.samples.stacks
  pub few : is_idle inside.samples.awaited ≡ false → length (left_with inside.rows.told.names inside.samples.awaited inside.rows.rest).samples < 2 ^ 64
  pub tables : HasReadFor inside.samples.awaited inside.rows
