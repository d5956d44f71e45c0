-- A head without its trailing ';', and the bytes of a number at its end.
use Rattle.std.specs.Prelude.{ℕ, Bool, ◌||◌, if◌then◌else◌, List, [], ◌∷◌}
use Rattle.std.specs.Char.{is_ascii_digit}
use Rattle.folded_lines.specs.Lines.{is_point, is_semicolon}

-- a byte that may stand in a number
abbrev pub is_digit_or_point : ℕ → Bool
is_digit_or_point b = is_ascii_digit b || is_point b

-- a byte in front of the bytes that are kept: none is dropped but a ';' at the end
abbrev pub onto_trimmed : ℕ → List ℕ → List ℕ
onto_trimmed b [] = if is_semicolon b then [] else b ∷ []
onto_trimmed b (next ∷ bytes) = b ∷ next ∷ bytes

abbrev pub without_trailing_semicolons : List ℕ → List ℕ
without_trailing_semicolons [] = []
without_trailing_semicolons (b ∷ bytes) = onto_trimmed b (without_trailing_semicolons bytes)
