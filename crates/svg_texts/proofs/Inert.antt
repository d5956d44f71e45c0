-- Texts without markup.
use Rattle.std.proofs.Common.{◌≡◌, ◌≢◌, ℕ, ◌+◌, ◌/◌, ◌%◌, ◌≤◌, ◌⊎◌, inl, inr, Bool, true, false, not, cond, ◌&&◌, ◌||◌, eqb, ltb, List, [], ◌∷◌, ◌++◌, length, take, refl, ap, ◌∙◌, arith}
use Rattle.std.proofs.lemmas.Bool.{cases_Bool, eqb-false}
use Rattle.std.proofs.lemmas.Bool.Decides.{nat_tests}
use Rattle.std.proofs.lemmas.List.{take-append-le, length-take}
use Rattle.std.proofs.lemmas.Slice.Eq.{bytes_eq-Decides}
use Rattle.std.specs.Char.{encode_utf8}
use Rattle.std.specs.List.{flat_map, list_all}
use Rattle.std.specs.Prelude.{codes}
use Rattle.std.specs.Str.{bytes_eq}
use Rattle.svg_texts.specs.Shown.{visible, xml_character, xml_text, shown}
use Rattle.svg_texts.specs.SvgLaws.{is_markup, is_escape, is_inert}

-- ---- texts one after another

pub and_true : (one other : Bool) → (one && other) ≡ true → (one ≡ true) × (other ≡ true)
and_true true other is = (refl, is)
and_true false other is = absurd (cc)

pub true_and : (one other : Bool) → one ≡ true → other ≡ true → (one && other) ≡ true
true_and true other is later = later
true_and false other is later = absurd (cc)

or_true : (one other one' other' : Bool) → (one ≡ true → one' ≡ true) → (other ≡ true → other' ≡ true) → (one || other) ≡ true → (one' || other') ≡ true
or_true true other one' other' first second is = rw (first refl) refl
or_true false other true other' first second is = refl
or_true false other false other' first second is = second is

begun : (rest more escape : List ℕ) → bytes_eq (take (length escape) rest) escape ≡ true → bytes_eq (take (length escape) (rest ++ more)) escape ≡ true
begun rest more escape is =
    let same = (bytes_eq-Decides (take (length escape) rest) escape).0 is in
    let long : length escape ≤ length rest = omega (arith, ap length same, length-take (length escape) rest) in
    (bytes_eq-Decides (take (length escape) (rest ++ more)) escape).1 (take-append-le (length escape) rest more long ∙ same)

escape_stays : (rest more : List ℕ) → is_escape rest ≡ true → is_escape (rest ++ more) ≡ true
escape_stays rest more is =
    or_true _ _ _ _ (begun rest more (codes "amp;")) (or_true _ _ _ _ (begun rest more (codes "lt;")) (or_true _ _ _ _ (begun rest more (codes "gt;")) (or_true _ _ _ _ (begun rest more (codes "quot;"))
    (or_true _ false _ false (begun rest more (codes "#39;")) (λ no. no))))) is

pub inert-append : (one other : List ℕ) → is_inert one ≡ true → is_inert other ≡ true → is_inert (one ++ other) ≡ true
inert-append [] other is later = later
inert-append (byte ∷ rest) other is later =
    let parts = and_true _ (is_inert rest) is in
    true_and _ _ (here (eqb byte 38) parts.0) (inert-append rest other parts.1 later)
  where
    here : (b : Bool) → cond b (is_escape rest) (not (is_markup byte)) ≡ true → cond b (is_escape (rest ++ other)) (not (is_markup byte)) ≡ true
    here true begins = escape_stays rest other begins
    here false plain = plain

pub inert-flat_map : {X : Type 0} (f : X → List ℕ) (inert : (x : X) → is_inert (f x) ≡ true) (xs : List X) → is_inert (flat_map f xs) ≡ true
inert-flat_map f inert [] = refl
inert-flat_map f inert (x ∷ xs) = inert-append (f x) (flat_map f xs) (inert x) (inert-flat_map f inert xs)

-- ---- bytes that are no markup and no `&`

abbrev pub is_calm : ℕ → Bool
is_calm byte = not (eqb byte 38) && not (is_markup byte)

abbrev pub AreCalm : List ℕ → Type 0
AreCalm text = list_all is_calm text ≡ true

pub inert-calm : (text : List ℕ) → AreCalm text → is_inert text ≡ true
inert-calm [] calm = refl
inert-calm (byte ∷ rest) calm =
    let parts = and_true _ (list_all is_calm rest) calm in
    true_and _ _ (by (eqb byte 38) (is_markup byte) parts.0) (inert-calm rest parts.1)
  where
    by : (escape markup : Bool) → (not escape && not markup) ≡ true → cond escape (is_escape rest) (not markup) ≡ true
    by true markup is = absurd (cc)
    by false markup is = is

pub calm-append : (one other : List ℕ) → AreCalm one → AreCalm other → AreCalm (one ++ other)
calm-append [] other is later = later
calm-append (byte ∷ rest) other is later =
    let parts = and_true _ (list_all is_calm rest) is in
    true_and _ _ parts.0 (calm-append rest other parts.1 later)

pub calm-more : (byte : ℕ) (rest : List ℕ) → is_calm byte ≡ true → AreCalm rest → AreCalm (byte ∷ rest)
calm-more byte rest here later = true_and _ (list_all is_calm rest) here later

-- a byte that is none of the five
pub calm-byte : (byte : ℕ) → byte ≢ 38 → byte ≢ 60 → byte ≢ 62 → byte ≢ 34 → byte ≢ 39 → is_calm byte ≡ true
calm-byte byte amp less more quote tick = grind (arith, nat_tests)

pub calm-high : (byte : ℕ) → 63 ≤ byte → is_calm byte ≡ true
calm-high byte high = grind (arith, nat_tests)

-- ---- characters

-- one that has no escape
encoded : (c : ℕ) → c ≢ 38 → c ≢ 60 → c ≢ 62 → c ≢ 34 → c ≢ 39 → AreCalm (encode_utf8 c)
unfolding encode_utf8
encoded c amp less more quote tick = by (ltb c 128) (ltb c 2048) (ltb c 65536)
  where
    next : (n : ℕ) → is_calm (128 + n % 64) ≡ true
    next n = calm-high (128 + n % 64) (omega arith)

    by : (one two three : Bool) → AreCalm (cond one (c ∷ []) (cond two ((192 + c / 64) ∷ (128 + c % 64) ∷ []) (cond three ((224 + c / 4096) ∷ (128 + c / 64 % 64) ∷ (128 + c % 64) ∷ [])
        ((240 + c / 262144) ∷ (128 + c / 4096 % 64) ∷ (128 + c / 64 % 64) ∷ (128 + c % 64) ∷ []))))
    by true two three = true_and _ true (calm-byte c amp less more quote tick) refl
    by false true three = true_and _ _ (calm-high (192 + c / 64) (omega arith)) (true_and _ true (next c) refl)
    by false false true = true_and _ _ (calm-high (224 + c / 4096) (omega arith)) (true_and _ _ (next (c / 64)) (true_and _ true (next c) refl))
    by false false false = true_and _ _ (calm-high (240 + c / 262144) (omega arith)) (true_and _ _ (next (c / 4096)) (true_and _ _ (next (c / 64)) (true_and _ true (next c) refl)))

inert-character : (c : ℕ) → is_inert (xml_character c) ≡ true
inert-character c = by (cases_Bool (eqb c 38)) (cases_Bool (eqb c 60)) (cases_Bool (eqb c 62)) (cases_Bool (eqb c 34)) (cases_Bool (eqb c 39))
  where
    Case : ℕ → Type 0
    Case n = (eqb c n ≡ true) ⊎ (eqb c n ≡ false)

    by : Case 38 → Case 60 → Case 62 → Case 34 → Case 39 → is_inert (xml_character c) ≡ true
    by (inl e) less more quote tick = rw e refl
    by (inr n1) (inl e) more quote tick = rw (n1, e) refl
    by (inr n1) (inr n2) (inl e) quote tick = rw (n1, n2, e) refl
    by (inr n1) (inr n2) (inr n3) (inl e) tick = rw (n1, n2, n3, e) refl
    by (inr n1) (inr n2) (inr n3) (inr n4) (inl e) = rw (n1, n2, n3, n4, e) refl
    by (inr n1) (inr n2) (inr n3) (inr n4) (inr n5) =
        rw (n1, n2, n3, n4, n5) (inert-calm (encode_utf8 c) (encoded c (eqb-false c 38 n1) (eqb-false c 60 n2) (eqb-false c 62 n3) (eqb-false c 34 n4) (eqb-false c 39 n5)))

pub inert-xml : (characters : List ℕ) → is_inert (xml_text characters) ≡ true
inert-xml characters = inert-flat_map xml_character inert-character characters

pub inert-shown : (text : List ℕ) → is_inert (shown text) ≡ true
unfolding shown
inert-shown text = inert-xml (visible text)
