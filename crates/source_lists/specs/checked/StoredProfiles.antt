-- A profile that its reader loads.
use Rattle.std.specs.Prelude.{◌≡◌, ◌<◌, ◌^◌, ◌⊎◌, ℕ, List, [], length, Option, IfSome, IsTrue}
use Rattle.stack_core.specs.Reading.{Rest}
use Rattle.stack_core.specs.declared.endings.SourceEnd.TheVariants.{Stopped}
use Rattle.sample_tables.specs.Rows.{ToldRows}
use Rattle.profile_tables.specs.Samples.{read_pprof}
use Rattle.run_options.specs.declared.choices.Naming.{Naming}
use Rattle.run_options.specs.declared.choices.Pick.{Pick}
use Rattle.source_lists.specs.declared.stored_profile.StoredProfile.{StoredProfile}
use Rattle.source_lists.specs.declared.stored_profile.StoredProfile.TheVariants.{Unread, Loaded, Unreadable}

-- what is read where a profile can't be
abbrev pub nothing_read : Rest
nothing_read = record { samples = []; ending = Stopped 0 }

-- what some bytes stand for, which are the known ones where those are known
pub record ReadsSome (known : Option (List ℕ)) (pick : Pick) (naming : Naming) (rest : Rest) : Type 0 where
  pub bytes : List ℕ
  pub of_known : IfSome known (λ known. bytes ≡ known)
  pub short : length bytes < 2 ^ 64
  pub is_read : rest ≡ read_pprof bytes pick naming

-- the rests that it may give
abbrev pub profile_gives : StoredProfile → Rest → Type 0
profile_gives (Unread text pick naming) rest = (rest ≡ nothing_read) ⊎ ReadsSome text pick naming rest
profile_gives (Loaded rows) rest = rest ≡ rows.rest
profile_gives Unreadable rest = rest ≡ nothing_read

-- the names and stacks that it told
abbrev pub profile_told : StoredProfile → ToldRows
profile_told (Unread text pick naming) = record { names = []; stacks = [] }
profile_told (Loaded rows) = rows.told
profile_told Unreadable = record { names = []; stacks = [] }

-- it has answered the ending
abbrev pub HasProfileEnded : StoredProfile → Type 0
HasProfileEnded (Unread text pick naming) = ⊥
HasProfileEnded (Loaded rows) = IsTrue rows.has_ended
HasProfileEnded Unreadable = Unit {0}

-- it was tried to load it
abbrev pub WasTried : StoredProfile → Type 0
WasTried (Unread text pick naming) = ⊥
WasTried (Loaded rows) = Unit {0}
WasTried Unreadable = Unit {0}
