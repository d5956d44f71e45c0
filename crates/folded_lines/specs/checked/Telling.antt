-- What a reader of rows told, and the heads that were told.
use Rattle.std.specs.Prelude.{◌≡◌, ◌<◌, ℕ, ◌∷◌, ◌++◌, nat_lt, if◌then◌else◌, List, [], length, All, Option, Some, None}
use Rattle.stack_core.specs.NamesInOrder.{with_stack}
use Rattle.stack_core.specs.Records.{names_at}
use Rattle.sample_tables.specs.Rows.{ToldRows, stack_at}
use Rattle.sample_tables.specs.declared.samples.TheConstants.{FRAME_LIMIT}
use Rattle.stack_core.specs.declared.endings.ReadKind.{ReadKind}
use Rattle.stack_core.specs.declared.endings.ReadKind.TheVariants.{TwoColumns, TooDeep}
use Rattle.folded_lines.specs.Lines.{columns, ends_in_number, names_of}

-- what is wrong with a head, whatever its count
abbrev pub head_fault : List ℕ → Option ReadKind
head_fault head = if ends_in_number (columns head) then Some TwoColumns
    else if nat_lt FRAME_LIMIT (length (names_of head)) then Some TooDeep else None

-- the numbers of a stack's names, in a table that had some names before
pub record IsNumbered (stack names names' : List (List ℕ)) (frames : List ℕ) : Type 0 where
  pub named : names_at names' frames ≡ stack
  pub numbers : All (λ k. k < length names') frames
  pub in_order : names' ≡ with_stack names stack

-- a stack is told: those of its names that are new, and the numbers of all
pub record TellsStack (stack : List (List ℕ)) (told : ToldRows) (names : List (List ℕ)) (frames : List ℕ) (told' : ToldRows) : Type 0 where
  pub numbered : IsNumbered stack told.names told'.names frames
  pub names_told : told'.names ≡ told.names ++ names
  pub stacks : told'.stacks ≡ told.stacks ++ frames ∷ []

-- a head without fault, whose stack was told under the row
pub record IsToldAs (told : ToldRows) (head : List ℕ) (row : ℕ) : Type 0 where
  pub known : row < length told.stacks
  pub numbers : All (λ k. k < length told.names) (stack_at told.stacks row)
  pub named : names_at told.names (stack_at told.stacks row) ≡ names_of head
  pub faultless : head_fault head ≡ None
