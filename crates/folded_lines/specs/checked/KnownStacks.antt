-- Stacks that are known by the numbers of their names, and what a head has to do with them.
use Rattle.std.specs.Prelude.{◌≡◌, ◌<◌, ◌≤◌, ◌+◌, ℕ, List, length, map, All, IfSome, Option, slice_range}
use Rattle.std.specs.List.{join_with_byte}
use Rattle.sample_tables.specs.Rows.{stack_at}
use Rattle.stack_core.specs.Records.{names_at}
use Rattle.folded_lines.specs.Lines.{names_of}
use Rattle.folded_lines.specs.checked.Telling.{IsToldAs}
use Rattle.folded_lines.specs.declared.known_stacks.KnownRow.{KnownRow}

-- the stack of a row, among the numbers of all
abbrev pub stack_of : List ℕ → KnownRow → List ℕ
stack_of numbers row = slice_range numbers row.start (row.start + row.len)

abbrev pub stacks_of : List ℕ → List KnownRow → List (List ℕ)
stacks_of numbers rows = map (stack_of numbers) rows

-- the numbers of each row are there
abbrev pub AreWithin : List ℕ → List KnownRow → Type 0
AreWithin numbers rows = All (λ row. row.start + row.len ≤ length numbers) rows

-- a stack of names that are known, and that read back where they are joined by ';'
pub record IsKnown (names : List (List ℕ)) (frames : List ℕ) : Type 0 where
  pub numbers : All (λ k. k < length names) frames
  pub reads_back : names_of (join_with_byte 59 (names_at names frames)) ≡ names_at names frames

abbrev pub AreKnown : List (List ℕ) → List (List ℕ) → Type 0
AreKnown names stacks = All (IsKnown names) stacks

-- the stack of this row has the names of a head
pub record IsRowOf (names stacks : List (List ℕ)) (row : ℕ) (head : List ℕ) : Type 0 where
  pub known : row < length stacks
  pub named : names_at names (stack_at stacks row) ≡ names_of head

-- the names of a stack, joined by ';', are these bytes
pub record IsSpelled (names : List (List ℕ)) (frames bytes : List ℕ) : Type 0 where
  pub numbers : All (λ k. k < length names) frames
  pub spelled : join_with_byte 59 (names_at names frames) ≡ bytes

-- those of the stack of a row
pub record IsSpelledAt (names stacks : List (List ℕ)) (bytes : List ℕ) (row : ℕ) : Type 0 where
  pub known : row < length stacks
  pub spelled : IsSpelled names (stack_at stacks row) bytes

-- a head that is kept was told as its row
abbrev pub IsMet : List (List ℕ) → List (List ℕ) → List ℕ → Option ℕ → Type 0
IsMet names stacks head row = IfSome row (IsToldAs (record { names = names; stacks = stacks }) head)
