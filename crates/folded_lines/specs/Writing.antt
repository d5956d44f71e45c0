-- The folded line of a stack, with one weight or two.
use Rattle.std.specs.Prelude.{ℕ, List, [], ◌∷◌, ◌++◌}
use Rattle.std.specs.List.{join_with_byte}
use Rattle.std.specs.Fmt.{decimal}

-- a space and the weight
abbrev pub column_of : ℕ → List ℕ
column_of weight = 32 ∷ decimal weight

-- the names joined by ';', a space, the weight and LF
abbrev pub line_of : List (List ℕ) → ℕ → List ℕ
line_of stack weight = join_with_byte 59 stack ++ (column_of weight ++ 10 ∷ [])

-- the same with two weights
abbrev pub pair_line_of : List (List ℕ) → ℕ → ℕ → List ℕ
pair_line_of stack before after = join_with_byte 59 stack ++ (column_of before ++ (column_of after ++ 10 ∷ []))
