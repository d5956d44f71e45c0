-- What was told, and by which spellings of location ids it is known again.
use Rattle.std.specs.Prelude.{◌≡◌, ◌<◌, ◌≤◌, ℕ, List, [], ◌∷◌, ◌++◌, length, All, Option, Some, None, is_none, false, slice_range}
use Rattle.std.specs.List.{list_any}
use Rattle.wire_fields.specs.Reading.{numbers_of}
use Rattle.sample_tables.specs.declared.samples.TheConstants.{FRAME_LIMIT}
use Rattle.stack_core.specs.NamesInOrder.{with_stack}
use Rattle.stack_core.specs.Records.{names_at}
use Rattle.sample_tables.specs.Rows.{ToldRows, stack_at}
use Rattle.call_tree.specs.SpellingCache.{Spelling, GrowsByAtMost}
use Rattle.profile_tables.specs.declared.frames.Frames.{Frames}
use Rattle.profile_messages.specs.declared.messages.Span.{Span}
use Rattle.profile_tables.specs.declared.tellers.Teller.{Teller}
use Rattle.profile_tables.specs.Samples.{stack_of_ids}
use Rattle.profile_tables.specs.checked.Frames.{frames_at}
use Rattle.profile_tables.specs.checked.FrameNumbers.{AreNumbersOf}
use Rattle.profile_tables.specs.checked.Fronts.{bytes_at}

abbrev pub told_of : Teller → ToldRows
told_of teller = record { names = teller.numbers.table; stacks = teller.told }

-- the run spells locations without a fault, whose frames are the stack of this number
pub record IsStackOf (frames : Frames) (told : ToldRows) (run : List ℕ) (row : ℕ) : Type 0 where
  pub no_fault : (numbers_of run).fault ≡ None
  pub known : list_any (λ id. is_none (frames_at frames id)) (numbers_of run).items ≡ false
  pub depth : length (stack_of_ids (frames_at frames) (numbers_of run).items) ≤ FRAME_LIMIT
  pub was_told : row < length told.stacks
  pub within : All (λ number. number < length told.names) (stack_at told.stacks row)
  pub named : names_at told.names (stack_at told.stacks row) ≡ stack_of_ids (frames_at frames) (numbers_of run).items

-- each spelling that is known is one of the stack that was told by its number
abbrev pub AreSpellings : List ℕ → Frames → ToldRows → List Spelling → Type 0
AreSpellings file frames told spellings =
    All (λ spelling. IsStackOf frames told (slice_range file spelling.start spelling.end) spelling.row) spellings

pub record IsTeller (file : List ℕ) (frames : Frames) (teller : Teller) : Type 0 where
  pub numbers : AreNumbersOf frames teller.numbers
  pub count : teller.count ≡ length teller.told
  pub spellings : AreSpellings file frames (told_of teller) teller.spellings

-- the run spells these location ids
pub record IsRunOf (file ids : List ℕ) (run : Span) : Type 0 where
  pub order : run.start ≤ run.end
  pub within : run.end ≤ length file
  pub no_fault : (numbers_of (bytes_at file run)).fault ≡ None
  pub spells : (numbers_of (bytes_at file run)).items ≡ ids

-- the row's spelling may be known from now on
abbrev pub Remembers : Option Span → ℕ → List Spelling → List Spelling → Type 0
Remembers None row known known' = known' ≡ known
Remembers (Some run) row known known' = GrowsByAtMost (record { start = run.start; end = run.end; row = row }) known known'

-- a stack is told: its new names, and the numbers of all
pub record TellsStack (told told' : ToldRows) (names : List (List ℕ)) (frames : List ℕ) (stack : List (List ℕ)) : Type 0 where
  pub names_told : told'.names ≡ told.names ++ names
  pub in_order : told'.names ≡ with_stack told.names stack
  pub named : names_at told'.names frames ≡ stack
  pub within : All (λ number. number < length told'.names) frames
  pub stacks : told'.stacks ≡ told.stacks ++ frames ∷ []
