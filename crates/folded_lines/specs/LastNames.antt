-- Which stacks that a text gives don't read back.
use Rattle.std.specs.Prelude.{ℕ, Bool, false, ◌==◌, List, [], ◌∷◌, length, Some, None, slice_index}
use Rattle.folded_lines.specs.Lines.{columns, ends_in_number}

-- the last name, if there is one, ends in a space or tab and a number
abbrev pub last_ends_in_number : List (List ℕ) → Bool
last_ends_in_number [] = false
last_ends_in_number (name ∷ []) = ends_in_number (columns name)
last_ends_in_number (name ∷ next ∷ names) = last_ends_in_number (next ∷ names)

-- the last byte, if there is one, is ';'
abbrev pub ends_in_semicolon : List ℕ → Bool
ends_in_semicolon [] = false
ends_in_semicolon (b ∷ bytes) = slice_index (b ∷ bytes) (length bytes) == 59

-- a line whose first column ends in ';'
abbrev pub is_open : List ℕ → Bool
is_open line = elim (columns line) [ None ↦ false | Some parts ↦ ends_in_semicolon parts.0 ]
