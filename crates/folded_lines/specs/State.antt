-- What callers see of the readers.
use Rattle.std.specs.Prelude.{◌≡◌, ◌≢◌, ℕ, Bool, List, []}
use Rattle.stack_core.specs.Reading.{Rest, IsSourceLimited}
use Rattle.stack_core.specs.declared.endings.SourceEnd.TheVariants.{Stopped}
use Rattle.sample_tables.specs.Rows.{ToldRows}
use Rattle.folded_lines.specs.Reading.{read_folded}

-- what it still has to give, whether it has come to the ending, and what it told by rows
pub record State : Type 0 where
  pub rest : Rest
  pub has_ended : Bool
  pub told : ToldRows

-- a reader of a text of which nothing was read
pub record IsUnread (text : List ℕ) (state : State) : Type 0 where
  pub rest : state.rest ≡ read_folded text
  pub limits : IsSourceLimited (read_folded text).samples
  pub told : state.told ≡ record { names = []; stacks = [] }
  pub unstopped : (after : ℕ) → (read_folded text).ending ≢ Stopped after
