-- A head cut at its ';'.
use Rattle.std.specs.Prelude.{ℕ, ◌+◌, List, [], length, map, Option, Some, None}
use Rattle.std.specs.Borrow.{Bor}
use Rattle.std.specs.List.{slice_split}
use Rattle.folded_lines.specs.Lines.{is_semicolon, lossy_text}

-- the names that the bytes separate
abbrev pub names_between : List ℕ → List (List ℕ)
names_between head = map lossy_text (slice_split is_semicolon head)

-- the names of what is left
abbrev pub names_left : Option (Bor (List ℕ)) → List (List ℕ)
names_left None = []
names_left (Some rest) = slice_split is_semicolon rest.now

-- how many bytes are left, and one more where a name is left
abbrev pub bytes_left : Option (Bor (List ℕ)) → ℕ
bytes_left None = 0
bytes_left (Some rest) = length rest.now + 1
