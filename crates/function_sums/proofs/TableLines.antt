-- Lines of a table with one more, and characters of a text with one byte more.
use Rattle.std.proofs.Common.{◌≡◌, ℕ, suc, ◌+◌, ◌<◌, cond, max, List, [], ◌++◌, Option, None, length, get_or, drop, take-append-drop, sym, ap, ◌∙◌, arith}
use Rattle.std.specs.Prelude.{unwrap_or}
use Rattle.byte_io.proofs.PieceTexts.{further}
use Rattle.std.specs.Io.{StartsWith}
use Rattle.std.proofs.lemmas.List.{drop_more}
use Rattle.function_sums.specs.Columns.{Line, at_right_if, characters, goes_on, in_columns, widest}

-- the bytes from a place on, and those behind it
pub characters-drop : (text : List ℕ) (at byte : ℕ) → at < length text → characters (drop at text) ≡ cond (goes_on (get_or text at byte)) (characters (drop (at + 1) text)) (suc (characters (drop (at + 1) text)))
characters-drop text at byte within = ap characters (drop_more text at byte within)

pub widest-drop : (column : ℕ) (lines : List Line) (at : ℕ) (line : Line) → at < length lines
    → widest column (drop at lines) ≡ max (characters (unwrap_or (get_or (get_or lines at line).entries column None) [])) (widest column (drop (at + 1) lines))
widest-drop column lines at line within = ap (widest column) (drop_more lines at line within)

pub max_in_turn : (width one rest : ℕ) → max width (max one rest) ≡ max (max width one) rest
max_in_turn width one rest = grind arith

-- the entries from a place on, and those behind it
pub columns-drop : (widths : List ℕ) (entries : List (Option (List ℕ))) (at width : ℕ) (entry : Option (List ℕ)) → at < length widths → at < length entries
    → in_columns (drop at widths) (drop at entries) ≡ at_right_if (get_or widths at width) (get_or entries at entry) ++ in_columns (drop (at + 1) widths) (drop (at + 1) entries)
columns-drop widths entries at width entry wide long = λ i. in_columns (drop_more widths at width wide i) (drop_more entries at entry long i)

-- what begins with a text that begins with another
pub fronts : (a b c : List ℕ) → StartsWith a b → StartsWith b c → StartsWith a c
fronts a b c one other = further a b c (drop (length c) b) one (sym (take-append-drop (length c) b) ∙ ap (λ text. text ++ drop (length c) b) other)
