-- What is shown of a text is UTF-8, since the text is.
use Rattle.std.proofs.Common.{◌≡◌, ℕ, Bool, true, false, cond, eqb, List, [], ◌∷◌, ◌++◌, ◌<◌, refl, sym, ap, arith, ◌∙◌, append-nil, ◌&&◌}
use Rattle.std.proofs.Math.Utf8.{low_scalar}
use Rattle.std.proofs.lemmas.Str.{chars-encodes, encodes-append, scalars-chars}
use Rattle.std.specs.Char.{IsScalar, encode_utf8}
use Rattle.std.specs.List.{AllByRecursion, flat_map}
use Rattle.std.specs.Prelude.{codes}
use Rattle.std.specs.Str.{IsUtf8, all_scalars, chars, encode_utf8_all}
use Rattle.svg_texts.specs.Shown.{is_unseen, number_text, visible, visible_character, xml_character, xml_text, shown}
use Rattle.svg_texts.proofs.Each.{each-flat_map, each-weaker}
use Rattle.svg_texts.proofs.Plain.{IsPlain, number-plain}

-- ---- characters

both : (one other : Bool) → (one && other) ≡ true → (one ≡ true) × (other ≡ true)
both true other is = (refl, is)
both false other is = absurd (cc)

each_scalar : (characters : List ℕ) → all_scalars characters ≡ true → AllByRecursion IsScalar characters
each_scalar [] is = tt
each_scalar (c ∷ rest) is = let parts = both _ (all_scalars rest) is in (parts.0, each_scalar rest parts.1)

scalars_all : (characters : List ℕ) → AllByRecursion IsScalar characters → all_scalars characters ≡ true
scalars_all [] all = refl
scalars_all (c ∷ rest) all = rw all.0 (scalars_all rest all.1)

-- ---- escapes, as characters

unfoldable pub escaped : ℕ → List ℕ
escaped c =
    cond (eqb c 38) (codes "&amp;") (cond (eqb c 60) (codes "&lt;") (cond (eqb c 62) (codes "&gt;") (cond (eqb c 34) (codes "&quot;") (cond (eqb c 39) (codes "&#39;") (c ∷ [])))))

either : (b : Bool) (xs ys us vs : List ℕ) → encode_utf8_all xs ≡ us → encode_utf8_all ys ≡ vs → encode_utf8_all (cond b xs ys) ≡ cond b us vs
either true xs ys us vs one other = one
either false xs ys us vs one other = other

encoded : (c : ℕ) → encode_utf8_all (escaped c) ≡ xml_character c
unfolding escaped encode_utf8
encoded c =
    either (eqb c 38) _ _ _ _ refl (either (eqb c 60) _ _ _ _ refl (either (eqb c 62) _ _ _ _ refl (either (eqb c 34) _ _ _ _ refl (either (eqb c 39) _ _ _ _ refl (append-nil (encode_utf8 c))))))

pub all_encoded : (characters : List ℕ) → encode_utf8_all (flat_map escaped characters) ≡ xml_text characters
all_encoded [] = refl
all_encoded (c ∷ rest) = encodes-append (escaped c) (flat_map escaped rest) ∙ (λ i. encoded c i ++ all_encoded rest i)

number_scalars : (c : ℕ) → AllByRecursion IsScalar (number_text c)
number_scalars c = each-weaker IsPlain IsScalar (λ d plain. low_scalar d (omega (arith, plain.ascii))) (number_text c) (number-plain c)

visible_scalars : (c : ℕ) → IsScalar c → AllByRecursion IsScalar (visible_character c)
visible_scalars c is = by (is_unseen c)
  where
    by : (b : Bool) → AllByRecursion IsScalar (cond b (number_text c) (c ∷ []))
    by true = number_scalars c
    by false = (is, tt)

escaped_scalars : (c : ℕ) → IsScalar c → AllByRecursion IsScalar (escaped c)
unfolding escaped
escaped_scalars c is = by (eqb c 38) (eqb c 60) (eqb c 62) (eqb c 34) (eqb c 39)
  where
    low : (d : ℕ) → d < 128 → IsScalar d
    low d lt = low_scalar d (omega arith)

    by : (amp less more quote tick : Bool) → AllByRecursion IsScalar (cond amp (codes "&amp;") (cond less (codes "&lt;") (cond more (codes "&gt;") (cond quote (codes "&quot;") (cond tick (codes "&#39;") (c ∷ []))))))
    by true less more quote tick = (refl, (refl, (refl, (refl, (refl, tt)))))
    by false true more quote tick = (refl, (refl, (refl, (refl, tt))))
    by false false true quote tick = (refl, (refl, (refl, (refl, tt))))
    by false false false true tick = (refl, (refl, (refl, (refl, (refl, (refl, tt))))))
    by false false false false true = (refl, (refl, (refl, (refl, (refl, tt)))))
    by false false false false false = (is, tt)

-- ---- what is shown

-- its characters, with their escapes
pub shown_characters : List ℕ → List ℕ
shown_characters text = flat_map escaped (visible text)

shown_scalars : (text : List ℕ) → IsUtf8 text → all_scalars (shown_characters text) ≡ true
unfolding shown_characters
shown_scalars text is =
    let all = each_scalar (chars text) (scalars-chars text is) in
    let seen = each-flat_map IsScalar IsScalar visible_character visible_scalars (chars text) all in
    scalars_all (flat_map escaped (visible text)) (each-flat_map IsScalar IsScalar escaped escaped_scalars (visible text) seen)

pub shown-encoded : (text : List ℕ) → encode_utf8_all (shown_characters text) ≡ shown text
unfolding shown shown_characters
shown-encoded text = all_encoded (visible text)

pub shown-utf8 : (text : List ℕ) → IsUtf8 text → IsUtf8 (shown text)
shown-utf8 text is = (shown_characters text, (shown_scalars text is, shown-encoded text))

pub shown-chars : (text : List ℕ) → IsUtf8 text → chars (shown text) ≡ shown_characters text
shown-chars text is = ap chars (sym (shown-encoded text)) ∙ chars-encodes (shown_characters text) (shown_scalars text is)
