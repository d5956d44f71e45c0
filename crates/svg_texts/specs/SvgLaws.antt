-- What the laws of a picture say.
use Rattle.std.specs.Prelude.{◌≡◌, ℕ, Bool, true, not, ◌&&◌, ◌||◌, ◌==◌, List, [], ◌∷◌, length, take, codes, if◌then◌else◌}
use Rattle.std.specs.Int.{is_in_range}
use Rattle.std.specs.List.{list_all, list_any}
use Rattle.std.specs.Str.{IsUtf8, bytes_eq, chars}
use Rattle.svg_texts.specs.Shown.{is_unseen}

-- `<`, `>`, `"` and `'`
abbrev pub is_markup : ℕ → Bool
is_markup byte = (byte == 60) || ((byte == 62) || ((byte == 34) || (byte == 39)))

-- what follows an `&` is one of the five escapes
abbrev pub is_escape : List ℕ → Bool
is_escape rest =
    list_any (λ escape. bytes_eq (take (length escape) rest) escape) (codes "amp;" ∷ codes "lt;" ∷ codes "gt;" ∷ codes "quot;" ∷ codes "#39;" ∷ [])

-- a text has no markup, and no `&` but that of an escape
abbrev pub is_inert : List ℕ → Bool
is_inert [] = true
is_inert (byte ∷ rest) = (if byte == 38 then is_escape rest else not (is_markup byte)) && is_inert rest

-- a character that XML 1.0 has
abbrev pub is_of_xml : ℕ → Bool
is_of_xml character =
    (character == 9) || ((character == 10) || ((character == 13) || (is_in_range 32 55295 character || (is_in_range 57344 65533 character || is_in_range 65536 1114111 character))))

-- one that is seen, or that ends a line
abbrev pub is_seen : ℕ → Bool
is_seen character = (character == 10) || not (is_unseen character)

-- a text in UTF-8, of such characters alone
pub record IsXmlText (text : List ℕ) : Type 0 where
  pub utf8 : IsUtf8 text
  pub of_xml : list_all is_of_xml (chars text) ≡ true
  pub seen : list_all is_seen (chars text) ≡ true
