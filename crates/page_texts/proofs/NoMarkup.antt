-- No text that was made safe holds one of the five characters.
use Rattle.std.proofs.Common.{◌≡◌, ◌≢◌, ℕ, zero, suc, ◌+◌, ◌<◌, ◌≤◌, ◌==◌, true, false, List, [], ◌∷◌, ◌++◌, drop, get_or, All, inl, inr, ◌⊎◌, sym, ap, ◌∙◌, arith}
use Rattle.std.specs.Prelude.{⊤}
use Rattle.std.proofs.lemmas.Bool.{cases_eq, cases_Bool, ne_eqb, eqb-true, and_parts, or_cases, false≢true}
use Rattle.std.proofs.lemmas.List.Elements.{All-nil, All-cons}
use Rattle.std.specs.List.{AllByRecursion}
use Rattle.page_texts.specs.ScriptSafe.{escaped, begins_separator, separator_escape, script_safe}
use Rattle.page_texts.specs.PageLaws.{HasNoMarkup, HasNoSeparator}

-- ---- `<`, `>` and `&`

abbrev IsPlainByte : ℕ → Type 0
IsPlainByte byte = (byte ≢ 60) × (byte ≢ 62) × (byte ≢ 38)

abbrev ArePlain : List ℕ → Type 0
ArePlain = AllByRecursion IsPlainByte

-- a byte of an escape
abbrev IsLow : ℕ → Type 0
IsLow byte = (63 ≤ byte) × (byte < 128)

joined : (xs ys : List ℕ) → ArePlain xs → ArePlain ys → ArePlain (xs ++ ys)
joined [] ys h k = k
joined (x ∷ xs) ys h k = (h.0, joined xs ys h.1 k)

dropped : (n : ℕ) (xs : List ℕ) → ArePlain xs → ArePlain (drop n xs)
dropped zero xs h = h
dropped (suc n) [] h = tt
dropped (suc n) (x ∷ xs) h = dropped n xs h.1

plain : (byte : ℕ) → (byte ≡ 60 → ⊥) → (byte ≡ 62 → ⊥) → (byte ≡ 38 → ⊥) → IsPlainByte byte
plain byte a b c = (a, b, c)

abbrev escape_text : ℕ → ℕ → ℕ → ℕ → List ℕ
escape_text a b c d = 92 ∷ 117 ∷ a ∷ b ∷ c ∷ d ∷ []

plain-escape : (a b c d : ℕ) → IsPlainByte a → IsPlainByte b → IsPlainByte c → IsPlainByte d → ArePlain (escape_text a b c d)
plain-escape a b c d h i j k =
    (plain 92 (λ e. omega arith) (λ e. omega arith) (λ e. omega arith), (plain 117 (λ e. omega arith) (λ e. omega arith) (λ e. omega arith), (h, (i, (j, (k, tt))))))

digit : (n : ℕ) → 48 ≤ n → n < 58 → IsPlainByte n
digit n l h = plain n (λ e. omega arith) (λ e. omega arith) (λ e. omega arith)

letter : (n : ℕ) → 97 ≤ n → IsPlainByte n
letter n l = plain n (λ e. omega arith) (λ e. omega arith) (λ e. omega arith)

plain-escaped : (byte : ℕ) → ArePlain (escaped byte)
plain-escaped byte = go (cases_eq byte 60) (cases_eq byte 62) (cases_eq byte 38)
  where
    go : (byte ≡ 60) ⊎ (byte ≡ 60 → ⊥) → (byte ≡ 62) ⊎ (byte ≡ 62 → ⊥) → (byte ≡ 38) ⊎ (byte ≡ 38 → ⊥) → ArePlain (escaped byte)
    go (inl e) b c = rw e (plain-escape 48 48 51 99 (digit 48 (omega arith) (omega arith)) (digit 48 (omega arith) (omega arith)) (digit 51 (omega arith) (omega arith)) (letter 99 (omega arith)))
    go (inr a) (inl e) c = rw e (plain-escape 48 48 51 101 (digit 48 (omega arith) (omega arith)) (digit 48 (omega arith) (omega arith)) (digit 51 (omega arith) (omega arith)) (letter 101 (omega arith)))
    go (inr a) (inr b) (inl e) = rw e (plain-escape 48 48 50 54 (digit 48 (omega arith) (omega arith)) (digit 48 (omega arith) (omega arith)) (digit 50 (omega arith) (omega arith)) (digit 54 (omega arith) (omega arith)))
    go (inr a) (inr b) (inr c) = rw (ne_eqb byte 60 a, ne_eqb byte 62 b, ne_eqb byte 38 c) (plain byte a b c, tt)

plain-separator_escape : (last : ℕ) → ArePlain (separator_escape last)
plain-separator_escape last = go (cases_Bool (last == 168))
  where
    go : ((last == 168) ≡ true) ⊎ ((last == 168) ≡ false) → ArePlain (separator_escape last)
    go (inl e) = rw e (plain-escape 50 48 50 56 (digit 50 (omega arith) (omega arith)) (digit 48 (omega arith) (omega arith)) (digit 50 (omega arith) (omega arith)) (digit 56 (omega arith) (omega arith)))
    go (inr e) = rw e (plain-escape 50 48 50 57 (digit 50 (omega arith) (omega arith)) (digit 48 (omega arith) (omega arith)) (digit 50 (omega arith) (omega arith)) (digit 57 (omega arith) (omega arith)))

-- ---- the steps

pub safe-separator : (byte : ℕ) (rest : List ℕ) → begins_separator byte rest ≡ true → script_safe (byte ∷ rest) ≡ separator_escape (get_or rest 1 0) ++ drop 2 (script_safe rest)
unfolding script_safe
safe-separator byte rest h = rw h

pub safe-other : (byte : ℕ) (rest : List ℕ) → begins_separator byte rest ≡ false → script_safe (byte ∷ rest) ≡ escaped byte ++ script_safe rest
unfolding script_safe
safe-other byte rest h = rw h

plain-safe : (text : List ℕ) → ArePlain (script_safe text)
unfolding script_safe
plain-safe [] = tt
plain-safe (byte ∷ rest) = go (plain-safe rest) (cases_Bool (begins_separator byte rest))
  where
    go : ArePlain (script_safe rest) → (begins_separator byte rest ≡ true) ⊎ (begins_separator byte rest ≡ false) → ArePlain (script_safe (byte ∷ rest))
    go h (inl e) = rw (safe-separator byte rest e) (joined (separator_escape (get_or rest 1 0)) _ (plain-separator_escape (get_or rest 1 0)) (dropped 2 (script_safe rest) h))
    go h (inr e) = rw (safe-other byte rest e) (joined (escaped byte) _ (plain-escaped byte) h)

every : (xs : List ℕ) → ArePlain xs → All IsPlainByte xs
every [] h = All-nil IsPlainByte
every (x ∷ xs) h = All-cons IsPlainByte x xs h.0 (every xs h.1)

pub safe_has_no_markup : (text : List ℕ) → HasNoMarkup (script_safe text)
safe_has_no_markup text = every (script_safe text) (plain-safe text)

-- ---- U+2028 and U+2029

-- what begins a safe text, and is no letter of an escape, begins the text
head_kept : (text : List ℕ) (k : ℕ) → 128 ≤ k → get_or (script_safe text) 0 0 ≡ k → get_or text 0 0 ≡ k
unfolding script_safe
head_kept [] k high h = h
head_kept (byte ∷ rest) k high h = go (cases_Bool (begins_separator byte rest)) (cases_Bool (get_or rest 1 0 == 168)) (cases_eq byte 60) (cases_eq byte 62) (cases_eq byte 38)
  where
    go : (begins_separator byte rest ≡ true) ⊎ (begins_separator byte rest ≡ false) → ((get_or rest 1 0 == 168) ≡ true) ⊎ ((get_or rest 1 0 == 168) ≡ false)
        → (byte ≡ 60) ⊎ (byte ≡ 60 → ⊥) → (byte ≡ 62) ⊎ (byte ≡ 62 → ⊥) → (byte ≡ 38) ⊎ (byte ≡ 38 → ⊥) → byte ≡ k
    go (inl e) (inl z) a b c = let s : get_or (script_safe (byte ∷ rest)) 0 0 ≡ 92 = rw (safe-separator byte rest e, z) in absurd (omega (arith, s, h))
    go (inl e) (inr z) a b c = let s : get_or (script_safe (byte ∷ rest)) 0 0 ≡ 92 = rw (safe-separator byte rest e, z) in absurd (omega (arith, s, h))
    go (inr e) z (inl a) b c = let s : get_or (script_safe (byte ∷ rest)) 0 0 ≡ 92 = rw (safe-other byte rest e, a) in absurd (omega (arith, s, h))
    go (inr e) z (inr a) (inl b) c = let s : get_or (script_safe (byte ∷ rest)) 0 0 ≡ 92 = rw (safe-other byte rest e, b) in absurd (omega (arith, s, h))
    go (inr e) z (inr a) (inr b) (inl c) = let s : get_or (script_safe (byte ∷ rest)) 0 0 ≡ 92 = rw (safe-other byte rest e, c) in absurd (omega (arith, s, h))
    go (inr e) z (inr a) (inr b) (inr c) =
        let s : get_or (script_safe (byte ∷ rest)) 0 0 ≡ byte = rw (safe-other byte rest e, ne_eqb byte 60 a, ne_eqb byte 62 b, ne_eqb byte 38 c) in sym s ∙ h

-- a byte that is written as itself
kept_byte : (byte : ℕ) (rest : List ℕ) → begins_separator byte rest ≡ false → (byte ≡ 60 → ⊥) → (byte ≡ 62 → ⊥) → (byte ≡ 38 → ⊥) → script_safe (byte ∷ rest) ≡ byte ∷ script_safe rest
kept_byte byte rest e a b c = safe-other byte rest e ∙ rw (ne_eqb byte 60 a, ne_eqb byte 62 b, ne_eqb byte 38 c)

no_lead : (byte : ℕ) (rest : List ℕ) → (byte ≡ 226 → ⊥) → begins_separator byte rest ≡ false
no_lead byte rest h = rw (ne_eqb byte 226 h)

-- behind the second byte of a separator, its third
second_kept : (text : List ℕ) (k : ℕ) → 128 ≤ k → get_or text 0 0 ≡ 128 → get_or (script_safe text) 1 0 ≡ k → get_or text 1 0 ≡ k
unfolding script_safe
second_kept [] k high first h = absurd (omega arith)
second_kept (byte ∷ rest) k high first h =
    let s = kept_byte byte rest (no_lead byte rest (λ e. omega arith)) (λ e. omega arith) (λ e. omega arith) (λ e. omega arith) in
    head_kept rest k high (sym (ap (λ t. get_or t 1 0) s) ∙ h)

-- no separator begins before the safe text of what no separator begins before
still_none : (byte : ℕ) (rest : List ℕ) → begins_separator byte rest ≡ false → begins_separator byte (script_safe rest) ≡ false
still_none byte rest h = go (cases_Bool (begins_separator byte (script_safe rest)))
  where
    begun : begins_separator byte (script_safe rest) ≡ true → begins_separator byte rest ≡ true
    begun e =
        let p = and_parts (byte == 226) _ e in
        let q = and_parts (get_or (script_safe rest) 0 0 == 128) _ p.1 in
        let first = head_kept rest 128 (omega arith) (eqb-true _ 128 q.0) in
        elim (or_cases (get_or (script_safe rest) 1 0 == 168) _ q.1) [
          | inl z ↦ rw (p.0, first, second_kept rest 168 (omega arith) first (eqb-true _ 168 z))
          | inr z ↦ rw (p.0, first, second_kept rest 169 (omega arith) first (eqb-true _ 169 z))
        ]

    go : (begins_separator byte (script_safe rest) ≡ true) ⊎ (begins_separator byte (script_safe rest) ≡ false) → begins_separator byte (script_safe rest) ≡ false
    go (inl e) = absurd (false≢true (sym h ∙ begun e))
    go (inr e) = e

abbrev HasNone : List ℕ → Type 0
HasNone [] = ⊤
HasNone (x ∷ xs) = (begins_separator x xs ≡ false) × HasNone xs

none-dropped : (n : ℕ) (xs : List ℕ) → HasNone xs → HasNone (drop n xs)
none-dropped zero xs h = h
none-dropped (suc n) [] h = tt
none-dropped (suc n) (x ∷ xs) h = none-dropped n xs h.1

-- after letters of escapes
none-after : (xs ys : List ℕ) → AllByRecursion (λ x. x < 128) xs → HasNone ys → HasNone (xs ++ ys)
none-after [] ys low h = h
none-after (x ∷ xs) ys low h = (no_lead x (xs ++ ys) (λ e. omega (arith, low.0)), none-after xs ys low.1 h)

low-separator_escape : (last : ℕ) → AllByRecursion (λ x. x < 128) (separator_escape last)
low-separator_escape last = go (cases_Bool (last == 168))
  where
    go : ((last == 168) ≡ true) ⊎ ((last == 168) ≡ false) → AllByRecursion (λ x. x < 128) (separator_escape last)
    go (inl e) = rw e (omega arith, (omega arith, (omega arith, (omega arith, (omega arith, (omega arith, tt))))))
    go (inr e) = rw e (omega arith, (omega arith, (omega arith, (omega arith, (omega arith, (omega arith, tt))))))

none-safe : (text : List ℕ) → HasNone (script_safe text)
unfolding script_safe
none-safe [] = tt
none-safe (byte ∷ rest) = go (none-safe rest) (cases_Bool (begins_separator byte rest)) (cases_eq byte 60) (cases_eq byte 62) (cases_eq byte 38)
  where
    low : (a b c d : ℕ) → a < 128 → b < 128 → c < 128 → d < 128 → AllByRecursion (λ x. x < 128) (escape_text a b c d)
    low a b c d h i j k = (omega arith, (omega arith, (h, (i, (j, (k, tt))))))

    go : HasNone (script_safe rest) → (begins_separator byte rest ≡ true) ⊎ (begins_separator byte rest ≡ false) → (byte ≡ 60) ⊎ (byte ≡ 60 → ⊥) → (byte ≡ 62) ⊎ (byte ≡ 62 → ⊥) → (byte ≡ 38) ⊎ (byte ≡ 38 → ⊥)
        → HasNone (script_safe (byte ∷ rest))
    go h (inl e) a b c = rw (safe-separator byte rest e) (none-after (separator_escape (get_or rest 1 0)) _ (low-separator_escape (get_or rest 1 0)) (none-dropped 2 (script_safe rest) h))
    go h (inr e) (inl a) b c = rw (safe-other byte rest e, a) (none-after (escape_text 48 48 51 99) _ (low 48 48 51 99 (omega arith) (omega arith) (omega arith) (omega arith)) h)
    go h (inr e) (inr a) (inl b) c = rw (safe-other byte rest e, b) (none-after (escape_text 48 48 51 101) _ (low 48 48 51 101 (omega arith) (omega arith) (omega arith) (omega arith)) h)
    go h (inr e) (inr a) (inr b) (inl c) = rw (safe-other byte rest e, c) (none-after (escape_text 48 48 50 54) _ (low 48 48 50 54 (omega arith) (omega arith) (omega arith) (omega arith)) h)
    go h (inr e) (inr a) (inr b) (inr c) = rw (kept_byte byte rest e a b c) (still_none byte rest e, h)

at_place : (text : List ℕ) (place : ℕ) → HasNone text → begins_separator (get_or text place 0) (drop (place + 1) text) ≡ false
at_place [] place h = no_lead (get_or [] place 0) (drop (place + 1) []) (λ e. omega arith)
at_place (x ∷ xs) zero h = h.0
at_place (x ∷ xs) (suc place) h = let e : suc place + 1 ≡ suc (place + 1) = omega arith in rw e (at_place xs place h.1)

pub safe_has_no_separator : (text : List ℕ) → HasNoSeparator (script_safe text)
safe_has_no_separator text place = at_place (script_safe text) place (none-safe text)
