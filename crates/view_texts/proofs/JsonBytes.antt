-- The text of a value has no control characters.
use Rattle.std.proofs.Common.{◌≡◌, ℕ, zero, suc, ◌^◌, ◌<◌, ◌≤◌, Bool, true, false, ◌&&◌, nat_le, List, [], ◌∷◌, ◌++◌, length, get_or, decimal, All, inl, inr, refl, arith}
use Rattle.std.proofs.lemmas.Bool.{and_parts, leb-true, cases_lt, cases_eq}
use Rattle.std.proofs.lemmas.Fmt.{decimal_is_IsNumeral}
use Rattle.std.proofs.lemmas.List.Elements.{All-nil, All-cons}
use Rattle.std.proofs.lemmas.Str.Parse.{digit_at}
use Rattle.std.specs.List.{AllByRecursion}
use Rattle.json.specs.Print.{escape_byte, escape, quoted}
use Rattle.json.proofs.Printed.Strings.{escape_byte_plain}
use Rattle.serde_json.specs.Data.{unsigned, negative, float, Data, null, boolean, number, string, array, object, Items, no_items, item, Members, no_members, member}
use Rattle.serde_json.specs.Written.{comma_if, compact_text, items_text, members_text}
use Rattle.view_texts.proofs.JsonReading.{HasWholeNumbers, ItemsHaveWholeNumbers, MembersHaveWholeNumbers}

abbrev IsUncontrolled : List ℕ → Type 0
IsUncontrolled = AllByRecursion (λ byte. 32 ≤ byte)

joined : (xs ys : List ℕ) → IsUncontrolled xs → IsUncontrolled ys → IsUncontrolled (xs ++ ys)
joined [] ys h k = k
joined (x ∷ xs) ys h k = (h.0, joined xs ys h.1 k)

by_place : (xs : List ℕ) → ((k : ℕ) → k < length xs → 32 ≤ get_or xs k 0) → IsUncontrolled xs
by_place [] h = tt
by_place (x ∷ xs) h = (h 0 (omega arith), by_place xs (λ k l. h (suc k) (omega arith)))

uncontrolled-decimal : (n : ℕ) → n < 2 ^ 64 → IsUncontrolled (decimal n)
uncontrolled-decimal n h = by_place (decimal n) (λ k l. omega (arith, digit_at (decimal n) k (decimal_is_IsNumeral n h).0.1 l))

-- ---- escapes

abbrev are_uncontrolled : List ℕ → Bool
are_uncontrolled [] = true
are_uncontrolled (x ∷ xs) = nat_le 32 x && are_uncontrolled xs

by_test : (xs : List ℕ) → are_uncontrolled xs ≡ true → IsUncontrolled xs
by_test [] h = tt
by_test (x ∷ xs) h = let p = and_parts (nat_le 32 x) _ h in (leb-true 32 x p.0, by_test xs p.1)

-- the escapes of the bytes below n
abbrev escapes_below : ℕ → Bool
escapes_below zero = true
escapes_below (suc n) = are_uncontrolled (escape_byte n) && escapes_below n

escape_below : (n : ℕ) → escapes_below n ≡ true → (x : ℕ) → x < n → are_uncontrolled (escape_byte x) ≡ true
escape_below zero e x h = absurd (omega arith)
escape_below (suc n) e x h =
    let p = and_parts _ _ e in
    elim (cases_eq x n) [ inl same ↦ rw same p.0 | inr other ↦ escape_below n p.1 x (omega arith) ]

escapes_low : escapes_below 93 ≡ true
unfolding escape_byte
escapes_low = refl

uncontrolled-escape_byte : (x : ℕ) → IsUncontrolled (escape_byte x)
uncontrolled-escape_byte x = elim (cases_lt x 93) [
  | inl low ↦ by_test (escape_byte x) (escape_below 93 escapes_low x low)
  | inr high ↦ rw (escape_byte_plain x (λ e. omega arith) (λ e. omega arith) (omega arith)) (omega arith, tt)
]

uncontrolled-escape : (s : List ℕ) → IsUncontrolled (escape s)
uncontrolled-escape [] = tt
uncontrolled-escape (x ∷ s) = joined (escape_byte x) (escape s) (uncontrolled-escape_byte x) (uncontrolled-escape s)

uncontrolled-quoted : (s : List ℕ) → IsUncontrolled (quoted s)
uncontrolled-quoted s = (omega arith, joined (escape s) (34 ∷ []) (uncontrolled-escape s) (omega arith, tt))

-- ---- values

uncontrolled-comma : (later : Bool) → IsUncontrolled (comma_if later)
uncontrolled-comma true = (omega arith, tt)
uncontrolled-comma false = tt

mutual
  uncontrolled-text : (d : Data) → HasWholeNumbers d → IsUncontrolled (compact_text d)
  uncontrolled-text null h = by_test (compact_text null) refl
  uncontrolled-text (boolean true) h = by_test (compact_text (boolean true)) refl
  uncontrolled-text (boolean false) h = by_test (compact_text (boolean false)) refl
  uncontrolled-text (number (unsigned n)) h = uncontrolled-decimal n h
  uncontrolled-text (number (negative z)) h = absurd h
  uncontrolled-text (number (float x)) h = absurd h
  uncontrolled-text (string s) h = uncontrolled-quoted s
  uncontrolled-text (array ds) h = (omega arith, uncontrolled-items false ds h)
  uncontrolled-text (object ms) h = (omega arith, uncontrolled-members false ms h)

  uncontrolled-items : (later : Bool) (ds : Items) → ItemsHaveWholeNumbers ds → IsUncontrolled (items_text later ds)
  uncontrolled-items later no_items h = (omega arith, tt)
  uncontrolled-items later (item d ds) h =
      joined (comma_if later) _ (uncontrolled-comma later) (joined (compact_text d) _ (uncontrolled-text d h.0) (uncontrolled-items true ds h.1))

  uncontrolled-members : (later : Bool) (ms : Members) → MembersHaveWholeNumbers ms → IsUncontrolled (members_text later ms)
  uncontrolled-members later no_members h = (omega arith, tt)
  uncontrolled-members later (member k d ms) h =
      joined (comma_if later) _ (uncontrolled-comma later)
      (joined (quoted k) _ (uncontrolled-quoted k) (omega arith, joined (compact_text d) _ (uncontrolled-text d h.0) (uncontrolled-members true ms h.1)))

every : (xs : List ℕ) → IsUncontrolled xs → All (λ byte. 32 ≤ byte) xs
every [] h = All-nil (λ byte. 32 ≤ byte)
every (x ∷ xs) h = All-cons (λ byte. 32 ≤ byte) x xs h.0 (every xs h.1)

pub text_is_uncontrolled : (d : Data) → HasWholeNumbers d → All (λ byte. 32 ≤ byte) (compact_text d)
text_is_uncontrolled d h = every (compact_text d) (uncontrolled-text d h)
