-- What is shown of a text that is gone through.
use Rattle.std.proofs.Common.{◌≡◌, ℕ, List, [], ◌∷◌, ◌++◌, ap, ◌∙◌, append-nil}
use Rattle.std.proofs.lemmas.List.Concat.{flat_map-append}
use Rattle.std.specs.List.{flat_map}
use Rattle.std.specs.Str.{chars}
use Rattle.svg_texts.specs.Shown.{visible, visible_character, xml_character, xml_text}

-- what is seen of the characters so far
abbrev pub seen : List ℕ → List ℕ
seen characters = flat_map visible_character characters

pub seen_more : (characters : List ℕ) (next : ℕ) → seen (characters ++ next ∷ []) ≡ seen characters ++ visible_character next
seen_more characters next = flat_map-append visible_character characters (next ∷ []) ∙ ap (λ text. seen characters ++ text) (append-nil (visible_character next))

pub seen_in : (text before : List ℕ) (next : ℕ) (rest : List ℕ) → chars text ≡ before ++ next ∷ rest → visible text ≡ seen before ++ (visible_character next ++ seen rest)
seen_in text before next rest is = ap seen is ∙ flat_map-append visible_character before (next ∷ rest)

pub xml-append : (xs ys : List ℕ) → xml_text (xs ++ ys) ≡ xml_text xs ++ xml_text ys
xml-append xs ys = flat_map-append xml_character xs ys
