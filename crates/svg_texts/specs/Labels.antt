-- What stands on a box: its name where there is room for it, or the front of it and an ellipsis.
use Rattle.std.specs.Prelude.{ℕ, ◌+◌, ◌-◌, ◌*◌, ◌/◌, ◌==◌, ◌||◌, not, nat_le, nat_lt, List, [], ◌∷◌, ◌++◌, length, Option, None, Some, count_by, sum_by, if◌then◌else◌}
use Rattle.std.specs.Int.{is_in_range}
use Rattle.svg_texts.specs.Changes.{said_change}
use Rattle.svg_texts.specs.Shown.{visible, xml_text}
use Rattle.svg_texts.specs.declared.changes.Compared.{Compared}

-- how many characters have room on so many pixels: four are left free at both ends, and a character takes 7.2
abbrev pub room_on : ℕ → ℕ
room_on pixels = (pixels - 8) * 5 / 36

-- the room that a character takes: from U+1100 on, where wide letters begin, that of two
abbrev pub places : ℕ → ℕ
places character = if nat_lt character 4352 then 1 else 2

abbrev pub places_of : List ℕ → ℕ
places_of characters = sum_by places characters

-- the longest front of some characters that has room
abbrev pub front : ℕ → List ℕ → List ℕ
front room [] = []
front room (character ∷ rest) = if nat_le (places character) room then character ∷ front (room - places character) rest else []

-- an ellipsis behind what was cut, if anything is left
abbrev pub cut : List ℕ → List ℕ
cut [] = []
cut (character ∷ rest) = (character ∷ rest) ++ 8230 ∷ []

-- how many characters a text has: a byte from 128 to 191 goes on with one
abbrev pub count_characters : List ℕ → ℕ
count_characters text = count_by (λ byte. not (is_in_range 128 191 byte)) text

-- a space and a change, where they have room
abbrev pub change_within : ℕ → List ℕ → List ℕ
change_within room change = if nat_le (count_characters change + 1) room then 32 ∷ change else []

-- what stands behind a name in a comparison
abbrev pub change_label : ℕ → Option Compared → List ℕ
change_label room None = []
change_label room (Some compared) = change_within room (said_change compared)

-- the label of a name that is shown by these characters
abbrev pub label_of : ℕ → List ℕ → Option Compared → List ℕ
label_of room characters change =
    if nat_le (places_of characters) room
    then xml_text characters ++ change_label (room - places_of characters) change
    else xml_text (cut (front (room - 1) characters))

-- what stands on a box with room for so many characters: nothing where it is for one alone, or where the name is empty
unfoldable pub label : ℕ → List ℕ → Option Compared → List ℕ
label room name change = if nat_lt room 2 || (length name == 0) then [] else label_of room (visible name) change
