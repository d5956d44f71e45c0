-- JSON that can stand in a script element of HTML: `<`, `>`, `&`, U+2028 and U+2029 are written as escapes.
use Rattle.std.specs.Prelude.{ℕ, Bool, ◌==◌, ◌&&◌, ◌||◌, ◌++◌, List, [], ◌∷◌, drop, get_or, codes, if◌then◌else◌}
use Rattle.serde_json.specs.Data.{Data}
use Rattle.serde_json.specs.Written.{compact_text}

-- what stands for a byte
abbrev pub escaped : ℕ → List ℕ
escaped byte =
    if byte == 60 then codes "\\u003c" else if byte == 62 then codes "\\u003e" else if byte == 38 then codes "\\u0026" else byte ∷ []

-- whether a byte and those behind it begin with U+2028 or U+2029, which are the bytes E2 80 A8 and E2 80 A9
abbrev pub begins_separator : ℕ → List ℕ → Bool
begins_separator byte rest = (byte == 226) && ((get_or rest 0 0 == 128) && ((get_or rest 1 0 == 168) || (get_or rest 1 0 == 169)))

-- what stands for the separator whose last byte this is
abbrev pub separator_escape : ℕ → List ℕ
separator_escape last = if last == 168 then codes "\\u2028" else codes "\\u2029"

-- the text with the five characters as escapes; of a separator the two bytes behind its first are left out
unfoldable pub script_safe : List ℕ → List ℕ
script_safe [] = []
script_safe (byte ∷ rest) =
    if begins_separator byte rest
    then separator_escape (get_or rest 1 0) ++ drop 2 (script_safe rest)
    else escaped byte ++ script_safe rest

-- the text of a value in which no character can end the element that it stands in
abbrev pub page_data_text : Data → List ℕ
page_data_text value = script_safe (compact_text value)
