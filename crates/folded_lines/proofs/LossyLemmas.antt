-- What stays of a name that is made text: its ASCII bytes, and all of it that is UTF-8.
use Rattle.std.proofs.Common.{◌≡◌, ℕ, zero, suc, ◌<◌, ◌≤◌, false, List, [], ◌∷◌, ◌++◌, length, length-append, length-drop, map, drop, slice_index, None, Some, All, IsUtf8, refl, sym, ap, subst, ◌∙◌, arith}
use Rattle.std.specs.Str.{encode_utf8_all}
use Rattle.std.proofs.lemmas.Bool.Decides.{nat_tests}
use Rattle.std.proofs.lemmas.List.{map-append}
use Rattle.std.proofs.lemmas.List.Elements.{All-nil, All-cons, All-head, All-tail, All-append, All-drop}
use Rattle.std.proofs.lemmas.Str.{encodes-append, encode_ascii, IsUtf8-nil, IsUtf8-append, IsUtf8-encode}
use Rattle.bstr.specs.Utf8.{Decoded, decoded, good, pieces, continues, or_replacement, replacement, lossy_chars}
use Rattle.bstr.proofs.lemmas.PieceLemmas.{pieces-append, lossy_chars-step, lossy_chars-nil, value-1, piece-bounds}
use Rattle.bstr.proofs.lemmas.SoundLemmas.{SpellsChar-decoded}
use Rattle.bstr.proofs.lemmas.UnicodeLemmas.{replacement_bytes}
use Rattle.folded_lines.specs.Lines.{lossy_text}
use lib.Utf8.{encode}

pub lossy_text-nil : lossy_text [] ≡ []
lossy_text-nil = ap encode_utf8_all lossy_chars-nil

no_continuation : (b : ℕ) → b < 128 → continues b ≡ false
no_continuation b low = grind (arith, nat_tests)

ascii_first : (b : ℕ) (ys : List ℕ) → b < 128 → lossy_text (b ∷ ys) ≡ b ∷ lossy_text ys
ascii_first b ys low =
    let bytes = b ∷ ys in
    let read : decoded bytes ≡ good b 1 = value-1 (length bytes) b (slice_index bytes 1) (slice_index bytes 2) (slice_index bytes 3) (omega arith, low) in
    ap encode_utf8_all (lossy_chars-step bytes (omega arith) ∙ ap (λ (p : Decoded). or_replacement p.char ∷ lossy_chars (drop p.size bytes)) read)
    ∙ ap (λ t. t ++ lossy_text ys) (encode_ascii b low)

-- what stands on either side of an ASCII byte is made text by itself
pub lossy_text-ascii : (xs : List ℕ) (b : ℕ) (ys : List ℕ) → b < 128 → lossy_text (xs ++ b ∷ ys) ≡ lossy_text xs ++ b ∷ lossy_text ys
lossy_text-ascii xs b ys low =
    ap (λ ps. encode_utf8_all (map (λ (p : Decoded). or_replacement p.char) ps)) (pieces-append (length xs) xs (b ∷ ys) (omega arith) (λ some. no_continuation b low))
    ∙ ap encode_utf8_all (map-append (λ (p : Decoded). or_replacement p.char) (pieces xs) (pieces (b ∷ ys)))
    ∙ encodes-append (lossy_chars xs) (lossy_chars (b ∷ ys)) ∙ ap (λ t. lossy_text xs ++ t) (ascii_first b ys low)

-- the first character of some bytes, made text: what stands there, or U+FFFD
data FirstText (bytes front rest : List ℕ) : Type 0 where
  Same : bytes ≡ front ++ rest → 0 < length front → IsUtf8 front → FirstText bytes front rest
  Replaced : front ≡ 0xEF ∷ 0xBF ∷ 0xBD ∷ [] → IsUtf8 front → FirstText bytes front rest

abbrev first_text : List ℕ → List ℕ
first_text bytes = encode (or_replacement (decoded bytes).char)

abbrev after_first : List ℕ → List ℕ
after_first bytes = drop (decoded bytes).size bytes

first-text : (bytes : List ℕ) → 0 < length bytes → FirstText bytes (first_text bytes) (after_first bytes)
first-text bytes some = elim (decoded bytes).char as (λ o. (decoded bytes).char ≡ o → FirstText bytes (encode (or_replacement o)) (after_first bytes)) [
  | None ↦ λ e. Replaced replacement_bytes (IsUtf8-encode replacement refl)
  | Some c ↦ λ e. let spelt = SpellsChar-decoded bytes c e in Same spelt.bytes (omega (arith, spelt.width, piece-bounds bytes some)) (IsUtf8-encode c spelt.scalar)
] refl

lossy_text-step : (bytes : List ℕ) → 0 < length bytes → lossy_text bytes ≡ first_text bytes ++ lossy_text (after_first bytes)
lossy_text-step bytes some = ap encode_utf8_all (lossy_chars-step bytes some)

shorter : (bytes : List ℕ) → 0 < length bytes → length (after_first bytes) < length bytes
shorter bytes some = omega (arith, piece-bounds bytes some, length-drop (decoded bytes).size bytes)

-- what holds of all of two lists together holds of all of each
pub All-parts : {X : Type 0} (P : X → Type 0) (xs ys : List X) → All P (xs ++ ys) → All P xs × All P ys
All-parts P [] ys all = (All-nil P, all)
All-parts P (x ∷ xs) ys all =
    let rest = All-parts P xs ys (All-tail P x (xs ++ ys) all) in
    (All-cons P x xs (All-head P x (xs ++ ys) all) rest.0, rest.1)

wide_bytes : (P : ℕ → Type 0) → ((b : ℕ) → 128 ≤ b → P b) → All P (0xEF ∷ 0xBF ∷ 0xBD ∷ [])
wide_bytes P wide = All-cons P 0xEF (0xBF ∷ 0xBD ∷ []) (wide 0xEF (omega arith)) (All-cons P 0xBF (0xBD ∷ []) (wide 0xBF (omega arith)) (All-cons P 0xBD [] (wide 0xBD (omega arith)) (All-nil P)))

all_first : (P : ℕ → Type 0) → ((b : ℕ) → 128 ≤ b → P b) → (bytes front rest : List ℕ) → FirstText bytes front rest → All P bytes → All P front
all_first P wide bytes front rest (Same is some text) all = (All-parts P front rest (subst (All P) is all)).0
all_first P wide bytes front rest (Replaced is text) all = subst (All P) (sym is) (wide_bytes P wide)

kept_within : (P : ℕ → Type 0) → ((b : ℕ) → 128 ≤ b → P b) → (fuel : ℕ) (bytes : List ℕ) → length bytes ≤ fuel → All P bytes → All P (lossy_text bytes)
kept_within P wide fuel [] le all = subst (All P) (sym lossy_text-nil) (All-nil P)
kept_within P wide zero (b ∷ bytes) le all = absurd (omega arith)
kept_within P wide (suc fuel) (b ∷ bytes) le all =
    let whole = b ∷ bytes in
    let some : 0 < length whole = omega arith in
    let rest = after_first whole in
    subst (All P) (sym (lossy_text-step whole some))
    (All-append P (first_text whole) (lossy_text rest) (all_first P wide whole (first_text whole) rest (first-text whole some) all)
    (kept_within P wide fuel rest (omega (arith, shorter whole some)) (All-drop P (decoded whole).size whole all)))

-- what holds of a name's bytes, and of all that are no ASCII, holds of its text
pub lossy_text-keeps : (P : ℕ → Type 0) → ((b : ℕ) → 128 ≤ b → P b) → (bytes : List ℕ) → All P bytes → All P (lossy_text bytes)
lossy_text-keeps P wide bytes = kept_within P wide (length bytes) bytes (omega arith)

first_same : (bytes front rest : List ℕ) → FirstText bytes front rest → All (λ b. b < 128) front → bytes ≡ front ++ rest
first_same bytes front rest (Same is some text) all = is
first_same bytes front rest (Replaced is text) all =
    let low : 0xEF < 128 = All-head (λ b. b < 128) 0xEF (0xBF ∷ 0xBD ∷ []) (subst (All (λ b. b < 128)) is all) in
    absurd (omega arith)

ascii_within : (fuel : ℕ) (bytes : List ℕ) → length bytes ≤ fuel → All (λ b. b < 128) (lossy_text bytes) → lossy_text bytes ≡ bytes
ascii_within fuel [] le all = lossy_text-nil
ascii_within zero (b ∷ bytes) le all = absurd (omega arith)
ascii_within (suc fuel) (b ∷ bytes) le all =
    let whole = b ∷ bytes in
    let some : 0 < length whole = omega arith in
    let rest = after_first whole in
    let step = lossy_text-step whole some in
    let parts = All-parts (λ x. x < 128) (first_text whole) (lossy_text rest) (subst (All (λ x. x < 128)) step all) in
    step ∙ ap (λ t. first_text whole ++ t) (ascii_within fuel rest (omega (arith, shorter whole some)) parts.1)
    ∙ sym (first_same whole (first_text whole) rest (first-text whole some) parts.0)

-- text that is ASCII is what was made text
pub lossy_text-from_ascii : (bytes : List ℕ) → All (λ b. b < 128) (lossy_text bytes) → lossy_text bytes ≡ bytes
lossy_text-from_ascii bytes = ascii_within (length bytes) bytes (omega arith)

text_first : (bytes front rest : List ℕ) → FirstText bytes front rest → IsUtf8 front × (0 < length front)
text_first bytes front rest (Same is some text) = (text, some)
text_first bytes front rest (Replaced is text) = (text, omega (arith, ap length is))

text_within : (fuel : ℕ) (bytes : List ℕ) → length bytes ≤ fuel → IsUtf8 (lossy_text bytes)
text_within fuel [] le = subst IsUtf8 (sym lossy_text-nil) IsUtf8-nil
text_within zero (b ∷ bytes) le = absurd (omega arith)
text_within (suc fuel) (b ∷ bytes) le =
    let whole = b ∷ bytes in
    let some : 0 < length whole = omega arith in
    let rest = after_first whole in
    subst IsUtf8 (sym (lossy_text-step whole some))
    (IsUtf8-append (first_text whole) (lossy_text rest) (text_first whole (first_text whole) rest (first-text whole some)).0
    (text_within fuel rest (omega (arith, shorter whole some))))

pub IsUtf8-lossy_text : (bytes : List ℕ) → IsUtf8 (lossy_text bytes)
IsUtf8-lossy_text bytes = text_within (length bytes) bytes (omega arith)

pub lossy_text-some : (bytes : List ℕ) → 0 < length bytes → 0 < length (lossy_text bytes)
lossy_text-some bytes some =
    omega (
      arith,
      ap length (lossy_text-step bytes some),
      length-append (first_text bytes) (lossy_text (after_first bytes)),
      (text_first bytes (first_text bytes) (after_first bytes) (first-text bytes some)).1,
    )
