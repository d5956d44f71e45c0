-- What is made safe of a value's text is its texts alone.
use Rattle.std.proofs.Common.{◌≡◌, ℕ, zero, suc, ◌<◌, ◌==◌, ◌/◌, ◌%◌, Bool, true, false, List, [], ◌∷◌, ◌++◌, inl, inr, ◌⊎◌, refl, ap, ap₂, ◌∙◌, arith, decimal, pos, negsuc, lt-ltb}
use Rattle.std.specs.Fmt.{digits, digits_onto, digit_glyph}
use Rattle.std.proofs.lemmas.Bool.{cases_Bool}
use Rattle.json.specs.Print.{quoted}
use Rattle.serde_json.specs.Data.{Num, unsigned, negative, float, Data, null, boolean, number, string, array, object, Items, no_items, item, Members, no_members, member}
use Rattle.serde_json.specs.Written.{comma_if, compact_text, items_text, members_text, number_text}
use Rattle.page_texts.specs.ScriptSafe.{script_safe}
use Rattle.page_texts.specs.checked.SafeText.{safe_text, safe_items, safe_members}
use Rattle.page_texts.proofs.Seams.{BeginsLow, StaysByte, Stays, safe-append, safe-stays}

-- ---- digits stay

digit-stays : (n : ℕ) → n < 10 → StaysByte (digit_glyph false n)
digit-stays n h = rw (lt-ltb n 10 h) (omega arith, (λ e. omega arith, λ e. omega arith, λ e. omega arith))

onto-stays : (k n : ℕ) (acc : List ℕ) → Stays acc → Stays (digits_onto k 10 false n acc)
onto-stays zero n acc h = h
onto-stays (suc k) n acc h = go (onto-stays k (n / 10) (digit_glyph false (n % 10) ∷ acc) (first, h)) (cases_Bool (n / 10 == 0))
  where
    first : StaysByte (digit_glyph false (n % 10))
    first = digit-stays (n % 10) (omega arith)

    go : Stays (digits_onto k 10 false (n / 10) (digit_glyph false (n % 10) ∷ acc)) → ((n / 10 == 0) ≡ true) ⊎ ((n / 10 == 0) ≡ false) → Stays (digits_onto (suc k) 10 false n acc)
    go later (inl e) = rw e (first, h)
    go later (inr e) = rw e later

stays-decimal : (n : ℕ) → Stays (decimal n)
unfolding digits
stays-decimal n = onto-stays 64 n [] tt

stays-number : (n : Num) → Stays (number_text n)
stays-number (unsigned n) = stays-decimal n
stays-number (negative (pos n)) = stays-decimal n
stays-number (negative (negsuc n)) = ((omega arith, (λ e. omega arith, λ e. omega arith, λ e. omega arith)), stays-decimal (suc n))
stays-number (float x) = tt

-- ---- values

low-items : (ds : Items) → BeginsLow (items_text true ds)
low-items no_items = omega arith
low-items (item d ds) = omega arith

low-members : (ms : Members) → BeginsLow (members_text true ms)
low-members no_members = omega arith
low-members (member k d ms) = omega arith

after_comma : (later : Bool) (text safe : List ℕ) → script_safe text ≡ safe → script_safe (comma_if later ++ text) ≡ comma_if later ++ safe
unfolding script_safe
after_comma true text safe h = ap (λ t. 44 ∷ t) h
after_comma false text safe h = h

mutual
  unfolding script_safe

  pub safe-value : (d : Data) → script_safe (compact_text d) ≡ safe_text d
  safe-value null = refl
  safe-value (boolean true) = refl
  safe-value (boolean false) = refl
  safe-value (number n) = safe-stays (number_text n) (stays-number n)
  safe-value (string s) = refl
  safe-value (array ds) = ap (λ t. 91 ∷ t) (safe-value_items false ds)
  safe-value (object ms) = ap (λ t. 123 ∷ t) (safe-value_members false ms)

  safe-value_items : (later : Bool) (ds : Items) → script_safe (items_text later ds) ≡ safe_items later ds
  safe-value_items later no_items = refl
  safe-value_items later (item d ds) =
      after_comma later _ _ (safe-append (items_text true ds) (low-items ds) (compact_text d) ∙ ap₂ (λ s t. s ++ t) (safe-value d) (safe-value_items true ds))

  safe-value_members : (later : Bool) (ms : Members) → script_safe (members_text later ms) ≡ safe_members later ms
  safe-value_members later no_members = refl
  safe-value_members later (member k d ms) =
      after_comma later _ _ (safe-append (58 ∷ (compact_text d ++ members_text true ms)) (omega arith) (quoted k)
      ∙ ap (λ t. script_safe (quoted k) ++ 58 ∷ t)
      (safe-append (members_text true ms) (low-members ms) (compact_text d) ∙ ap₂ (λ s t. s ++ t) (safe-value d) (safe-value_members true ms)))
