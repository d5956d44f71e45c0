-- An ellipsis behind what was cut.
use Rattle.std.proofs.Common.{◌≡◌, ℕ, ◌<◌, Bool, true, false, cond, eqb, List, [], ◌∷◌, ◌++◌, length, refl, ap, ◌∙◌, arith}
use Rattle.std.proofs.lemmas.List.{length-append}
use Rattle.std.proofs.lemmas.Str.{length-encode, len_utf8_bounds}
use Rattle.std.specs.Char.{encode_utf8}
use Rattle.svg_texts.specs.Labels.{cut}
use Rattle.svg_texts.specs.Shown.{xml_character, xml_text}
use Rattle.svg_texts.proofs.Visible.{xml-append}

either : (b : Bool) (x y : List ℕ) → 0 < length x → 0 < length y → 0 < length (cond b x y)
either true x y one other = one
either false x y one other = other

character-some : (c : ℕ) → 0 < length (xml_character c)
character-some c =
    either (eqb c 38) _ _ (omega arith) (either (eqb c 60) _ _ (omega arith) (either (eqb c 62) _ _ (omega arith) (either (eqb c 34) _ _ (omega arith) (either (eqb c 39) _ _ (omega arith)
    (omega (arith, length-encode c, len_utf8_bounds c))))))

some : (c : ℕ) (rest : List ℕ) → 0 < length (xml_text (c ∷ rest))
some c rest = omega (arith, character-some c, length-append (xml_character c) (xml_text rest))

ellipsis : xml_text (8230 ∷ []) ≡ 226 ∷ 128 ∷ 166 ∷ []
unfolding encode_utf8
ellipsis = refl

pub cut-some : (characters : List ℕ) → 0 < length (xml_text characters) → xml_text (cut characters) ≡ xml_text characters ++ 226 ∷ 128 ∷ 166 ∷ []
cut-some [] lt = absurd (omega arith)
cut-some (c ∷ rest) lt = xml-append (c ∷ rest) (8230 ∷ []) ∙ ap (λ text. xml_text (c ∷ rest) ++ text) ellipsis

pub cut-none : (characters : List ℕ) → length (xml_text characters) ≡ 0 → xml_text (cut characters) ≡ xml_text characters
cut-none [] none = refl
cut-none (c ∷ rest) none = absurd (omega (arith, none, some c rest))
