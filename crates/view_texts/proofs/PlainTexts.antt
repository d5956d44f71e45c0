-- A text of plain bytes has no escapes.
use Rattle.std.proofs.Common.{◌≡◌, ℕ, List, [], ◌∷◌, ◌++◌, All, refl, ap, ap₂}
use Rattle.std.proofs.lemmas.List.Elements.{All-head, All-tail}
use Rattle.json.specs.Print.{escape, quoted}
use Rattle.json.proofs.Printed.Strings.{escape_byte_plain}
use Rattle.view_texts.specs.checked.PlainTexts.{IsPlainByte}

escape-plain : (text : List ℕ) → All IsPlainByte text → escape text ≡ text
escape-plain [] plain = refl
escape-plain (x ∷ xs) plain =
    let first = All-head IsPlainByte x xs plain in
    ap₂ (λ (a b : List ℕ). a ++ b) (escape_byte_plain x first.1 first.2 first.0) (escape-plain xs (All-tail IsPlainByte x xs plain))

pub quoted-plain : (text : List ℕ) → All IsPlainByte text → quoted text ≡ 34 ∷ (text ++ 34 ∷ [])
quoted-plain text plain = ap (λ t. 34 ∷ (t ++ 34 ∷ [])) (escape-plain text plain)
