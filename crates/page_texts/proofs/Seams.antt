-- Texts that are made safe in parts.
use Rattle.std.proofs.Common.{◌≡◌, ℕ, ◌<◌, ◌≤◌, ◌==◌, Bool, true, false, List, [], ◌∷◌, ◌++◌, drop, get_or, length, inl, inr, ◌⊎◌, refl, sym, ap, ap₂, ◌∙◌, arith, append_assoc}
use Rattle.std.proofs.lemmas.Bool.{cases_Bool, ne_eqb, eqb-true, and_parts, or_cases, false≢true}
use Rattle.std.proofs.lemmas.List.{drop_all}
use Rattle.std.specs.List.{AllByRecursion}
use Rattle.page_texts.specs.ScriptSafe.{escaped, begins_separator, separator_escape, script_safe}
use Rattle.page_texts.proofs.NoMarkup.{safe-separator, safe-other}

-- no part of a separator stands at the front
abbrev pub BeginsLow : List ℕ → Type 0
BeginsLow text = get_or text 0 0 < 128

same_begin : (byte : ℕ) (xs ys : List ℕ) → BeginsLow ys → begins_separator byte (xs ++ ys) ≡ begins_separator byte xs
same_begin byte [] ys low = rw (ne_eqb (get_or ys 0 0) 128 (λ e. omega arith))
same_begin byte (x ∷ []) ys low = rw (ne_eqb (get_or ys 0 0) 168 (λ e. omega arith), ne_eqb (get_or ys 0 0) 169 (λ e. omega arith))
same_begin byte (x ∷ y ∷ xs) ys low = refl

-- where a separator begins, its last two bytes are written as they are, and left out then
module _ (ys : List ℕ) (low : BeginsLow ys) where
  behind_lead : (byte : ℕ) (xs : List ℕ) → begins_separator byte xs ≡ true
      → (get_or (xs ++ ys) 1 0 ≡ get_or xs 1 0) × (drop 2 (script_safe xs ++ script_safe ys) ≡ drop 2 (script_safe xs) ++ script_safe ys)
  unfolding script_safe
  behind_lead byte [] h = let p = and_parts (byte == 226) _ h in absurd (false≢true p.1)
  behind_lead byte (x ∷ []) h =
      let p = and_parts (byte == 226) _ h in
      let q = and_parts (x == 128) _ p.1 in
      absurd (false≢true q.1)
  behind_lead byte (x ∷ y ∷ xs) h =
      let p = and_parts (byte == 226) _ h in
      let q = and_parts (x == 128) _ p.1 in
      let first = eqb-true x 128 q.0 in (
        refl,
        elim (or_cases (y == 168) _ q.1) [
          | inl z ↦ rw (first, eqb-true y 168 z)
          | inr z ↦ rw (first, eqb-true y 169 z)
        ],
      )

  pub safe-append : (xs : List ℕ) → script_safe (xs ++ ys) ≡ script_safe xs ++ script_safe ys
  unfolding script_safe
  safe-append [] = refl
  safe-append (x ∷ xs) = go (safe-append xs) (cases_Bool (begins_separator x xs))
    where
      go : script_safe (xs ++ ys) ≡ script_safe xs ++ script_safe ys → (begins_separator x xs ≡ true) ⊎ (begins_separator x xs ≡ false) → script_safe (x ∷ (xs ++ ys)) ≡ script_safe (x ∷ xs) ++ script_safe ys
      go h (inl e) =
          let behind = behind_lead x xs e in
          safe-separator x (xs ++ ys) (same_begin x xs ys low ∙ e)
          ∙ ap₂ (λ z t. separator_escape z ++ drop 2 t) behind.0 h
          ∙ ap (λ t. separator_escape (get_or xs 1 0) ++ t) behind.1
          ∙ sym (append_assoc (separator_escape (get_or xs 1 0)) (drop 2 (script_safe xs)) (script_safe ys))
          ∙ ap (λ t. t ++ script_safe ys) (sym (safe-separator x xs e))
      go h (inr e) =
          safe-other x (xs ++ ys) (same_begin x xs ys low ∙ e)
          ∙ ap (λ t. escaped x ++ t) h
          ∙ sym (append_assoc (escaped x) (script_safe xs) (script_safe ys))
          ∙ ap (λ t. t ++ script_safe ys) (sym (safe-other x xs e))

-- ---- bytes that stay

abbrev pub StaysByte : ℕ → Type 0
StaysByte byte = (byte < 128) × ((byte ≡ 60 → ⊥) × (byte ≡ 62 → ⊥) × (byte ≡ 38 → ⊥))

abbrev pub Stays : List ℕ → Type 0
Stays = AllByRecursion StaysByte

pub safe-stays : (xs : List ℕ) → Stays xs → script_safe xs ≡ xs
unfolding script_safe
safe-stays [] h = refl
safe-stays (x ∷ xs) h =
    safe-other x xs (rw (ne_eqb x 226 (λ e. omega (arith, h.0.0))))
    ∙ rw (ne_eqb x 60 h.0.1.0, ne_eqb x 62 h.0.1.1, ne_eqb x 38 h.0.1.2) (ap (λ t. x ∷ t) (safe-stays xs h.1))

-- ---- the front of a text

pub safe-front_separator : (text : List ℕ) → begins_separator (get_or text 0 0) (drop 1 text) ≡ true
    → script_safe text ≡ separator_escape (get_or text 2 0) ++ script_safe (drop 3 text)
unfolding script_safe
safe-front_separator [] h = absurd (false≢true h)
safe-front_separator (x ∷ []) h = let p = and_parts (x == 226) _ h in absurd (false≢true p.1)
safe-front_separator (x ∷ y ∷ []) h =
    let p = and_parts (x == 226) _ h in
    let q = and_parts (y == 128) _ p.1 in
    absurd (false≢true q.1)
safe-front_separator (x ∷ y ∷ z ∷ rest) h =
    let p = and_parts (x == 226) _ h in
    let q = and_parts (y == 128) _ p.1 in
    let second = eqb-true y 128 q.0 in
    safe-separator x (y ∷ z ∷ rest) h
    ∙ elim (or_cases (z == 168) _ q.1) [
      | inl e ↦ rw (second, eqb-true z 168 e)
      | inr e ↦ rw (second, eqb-true z 169 e)
    ]

pub safe-front_byte : (text : List ℕ) → 0 < length text → begins_separator (get_or text 0 0) (drop 1 text) ≡ false
    → script_safe text ≡ escaped (get_or text 0 0) ++ script_safe (drop 1 text)
safe-front_byte [] some h = absurd (omega arith)
safe-front_byte (x ∷ rest) some h = safe-other x rest h

-- the same, by the answer of a test
pub front_separator_at : (text : List ℕ) (answer : Bool) → answer ≡ begins_separator (get_or text 0 0) (drop 1 text) → answer ≡ true
    → script_safe text ≡ separator_escape (get_or text 2 0) ++ script_safe (drop 3 text)
front_separator_at text answer is sure = safe-front_separator text (sym is ∙ sure)

pub front_byte_at : (text : List ℕ) (answer : Bool) → 0 < length text → answer ≡ begins_separator (get_or text 0 0) (drop 1 text) → answer ≡ false
    → script_safe text ≡ escaped (get_or text 0 0) ++ script_safe (drop 1 text)
front_byte_at text answer some is none = safe-front_byte text some (sym is ∙ none)

pub nothing_left : (text : List ℕ) (at : ℕ) → length text ≤ at → script_safe (drop at text) ≡ []
unfolding script_safe
nothing_left text at h = rw (drop_all at text h)
