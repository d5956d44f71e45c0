-- What holds of each reader of a part.
use Rattle.std.specs.Prelude.{◌≡◌, ◌≢◌, ℕ, List}
use Rattle.stack_core.specs.Reading.{IsSourceLimited}
use Rattle.stack_core.specs.declared.endings.SourceEnd.TheVariants.{Stopped}
use Rattle.run_options.specs.declared.choices.Pick.{Pick}
use Rattle.profile_messages.specs.SampleTypes.{chosen_type as type_of_chosen}
use Rattle.profile_tables.specs.State.{State, nothing_told}

-- it has told nothing, and keeps to what is promised of a reader of the whole file
pub record IsPartReader (file : List ℕ) (pick : Pick) (reader : State) : Type 0 where
  pub told : reader.told ≡ nothing_told
  pub chosen_type : reader.chosen_type ≡ type_of_chosen file pick
  pub limits : IsSourceLimited reader.rest.samples
  pub unstopped : (after : ℕ) → reader.rest.ending ≢ Stopped after
