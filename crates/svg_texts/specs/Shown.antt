-- What is shown of a name, a title or a unit.
use Rattle.std.specs.Prelude.{ℕ, ◌+◌, ◌/◌, ◌%◌, Bool, ◌==◌, ◌||◌, nat_lt, List, [], ◌∷◌, ◌++◌, codes, if◌then◌else◌}
use Rattle.std.specs.Char.{encode_utf8}
use Rattle.std.specs.Int.{is_in_range}
use Rattle.std.specs.List.{flat_map}
use Rattle.std.specs.Str.{chars}

-- characters that are not seen, or that turn the text around them
abbrev pub is_unseen : ℕ → Bool
is_unseen character =
    is_in_range 0 31 character || (is_in_range 127 159 character || ((character == 173) || ((character == 1564) || ((character == 6158) || ((character == 8203)
    || (is_in_range 8206 8207 character || (is_in_range 8232 8238 character || (is_in_range 8288 8303 character || ((character == 65279)
    || (is_in_range 65529 65531 character || is_in_range 65534 65535 character))))))))))

-- a hexadecimal digit: 48 is `0`, and 55 + 10 is `A`
abbrev pub hexadecimal : ℕ → ℕ
hexadecimal digit = if nat_lt digit 10 then 48 + digit else 55 + digit

-- `[U+XXXX]`, with the number of a character
abbrev pub number_text : ℕ → List ℕ
number_text character =
    codes "[U+"
    ++ (hexadecimal (character / 4096 % 16) ∷ hexadecimal (character / 256 % 16) ∷ hexadecimal (character / 16 % 16) ∷ hexadecimal (character % 16) ∷ 93 ∷ [])

-- what stands for a character
abbrev pub visible_character : ℕ → List ℕ
visible_character character = if is_unseen character then number_text character else character ∷ []

-- the characters that are shown of a text
abbrev pub visible : List ℕ → List ℕ
visible text = flat_map visible_character (chars text)

-- a character in XML: `&`, `<`, `>`, `"` and `'` are written as escapes
abbrev pub xml_character : ℕ → List ℕ
xml_character character =
    if character == 38
    then codes "&amp;"
    else if character == 60
    then codes "&lt;"
    else if character == 62
    then codes "&gt;"
    else if character == 34
    then codes "&quot;"
    else if character == 39
    then codes "&#39;"
    else encode_utf8 character

abbrev pub xml_text : List ℕ → List ℕ
xml_text characters = flat_map xml_character characters

-- a text as a picture has it
unfoldable pub shown : List ℕ → List ℕ
shown text = xml_text (visible text)
