-- Tables: lines whose entries stand in columns.
use Rattle.std.specs.Prelude.{ℕ, suc, ◌-◌, Bool, ◌&&◌, max, nat_le, nat_lt, if◌then◌else◌, List, [], ◌∷◌, ◌++◌, replicate, Option, None, Some, unwrap_or}
use Rattle.std.specs.List.{flat_map, slice_index_or}

-- six entries, of which a column may be left out, and the name behind them
pub record Line : Type 0 where
  pub entries : List (Option (List ℕ))
  pub name : List ℕ

-- how many characters a text has: its bytes, but for those that go on a character
abbrev pub goes_on : ℕ → Bool
goes_on byte = nat_le 128 byte && nat_lt byte 192

abbrev pub characters : List ℕ → ℕ
characters [] = 0
characters (byte ∷ bytes) = if goes_on byte then characters bytes else suc (characters bytes)

-- how wide a column is: as its widest entry
abbrev pub widest : ℕ → List Line → ℕ
widest column [] = 0
widest column (line ∷ lines) = max (characters (unwrap_or (slice_index_or line.entries column None) [])) (widest column lines)

abbrev pub widths : List Line → List ℕ
widths lines = widest 0 lines ∷ widest 1 lines ∷ widest 2 lines ∷ widest 3 lines ∷ widest 4 lines ∷ widest 5 lines ∷ []

-- an entry at the right of its column, and two spaces; nothing where it is left out
abbrev pub at_right : ℕ → List ℕ → List ℕ
at_right width entry = replicate (width - characters entry) 32 ++ (entry ++ 32 ∷ 32 ∷ [])

abbrev pub at_right_if : ℕ → Option (List ℕ) → List ℕ
at_right_if width None = []
at_right_if width (Some entry) = at_right width entry

-- entries in columns of these widths
abbrev pub in_columns : List ℕ → List (Option (List ℕ)) → List ℕ
in_columns [] entries = []
in_columns (width ∷ widths) [] = []
in_columns (width ∷ widths) (entry ∷ entries) = at_right_if width entry ++ in_columns widths entries

abbrev pub line_text : List ℕ → Line → List ℕ
line_text widths line = in_columns widths line.entries ++ (line.name ++ 10 ∷ [])

unfoldable pub lines_text : List Line → List ℕ
lines_text lines = flat_map (line_text (widths lines)) lines
