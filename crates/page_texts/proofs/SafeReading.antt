-- The safe text of a value reads as its plain text.
use Rattle.std.proofs.Common.{◌≡◌, ℕ, Bool, true, false, cond, List, [], ◌∷◌, ◌++◌, refl, sym, ap, ap₂, ◌∙◌, append_assoc, append-nil, Option}
use Rattle.std.specs.Prelude.{option_and_then}
use Rattle.json.specs.Json as json
use Rattle.json.specs.Lex.{Lexeme, token, comma, colon, string_token, lex, between, fresh, punctuate}
use Rattle.json.specs.Print.{quoted, escape, token_text}
use Rattle.json.specs.Token.{Token}
use Rattle.json.specs.Tree.{HasNumbers, ItemsHaveNumbers, MembersHaveNumbers}
use Rattle.json.specs.Word.{ends_word, word}
use Rattle.json.proofs.Printed.Numbers.{lex-number, in_word-ended}
use Rattle.json.proofs.Printed.Strings.{content-escape, lex-escape}
use Rattle.serde_json.specs.Data.{Data, null, boolean, number, string, array, object, Items, no_items, item, Members, no_members, member}
use Rattle.serde_json.specs.Read.{of_json, read, max_depth}
use Rattle.serde_json.specs.Written.{comma_if, compact_text, items_text, members_text, number_text, outline, items_outline, members_outline}
use Rattle.page_texts.specs.ScriptSafe.{script_safe, page_data_text}
use Rattle.page_texts.specs.checked.SafeText.{safe_text, safe_items, safe_members}
use Rattle.page_texts.proofs.SafeStrings.{safe_closes}
use Rattle.page_texts.proofs.SafeText.{safe-value}

-- ---- one token

lex-quoted : (s r : List ℕ) → lex between (quoted s ++ r) ≡ token (Token.string s) ∷ lex between r
unfolding lex
lex-quoted s r =
    ap (λ l. lex between (34 ∷ l)) (append_assoc (escape s) (34 ∷ []) r) ∙ ap₂ (λ o l. token (string_token o) ∷ l) (content-escape s r) (lex-escape s r)

lex-safe_quoted : (s r : List ℕ) → lex between (script_safe (quoted s) ++ r) ≡ token (Token.string s) ∷ lex between r
unfolding lex script_safe
lex-safe_quoted s r =
    let closes = safe_closes s in
    ap₂ (λ o l. token (string_token o) ∷ l) (closes.content r) (closes.lexed r)

lex-null : (r : List ℕ) → ends_word r ≡ true → lex between (token_text Token.null ++ r) ≡ token Token.null ∷ lex between r
unfolding lex word
lex-null r h = ap₂ (λ b l. token (cond b Token.null Token.bad) ∷ l) h (in_word-ended r h)

lex-boolean : (b : Bool) (r : List ℕ) → ends_word r ≡ true → lex between (token_text (Token.boolean b) ++ r) ≡ token (Token.boolean b) ∷ lex between r
unfolding lex word
lex-boolean true r h = ap₂ (λ b l. token (cond b (Token.boolean true) Token.bad) ∷ l) h (in_word-ended r h)
lex-boolean false r h = ap₂ (λ b l. token (cond b (Token.boolean false) Token.bad) ∷ l) h (in_word-ended r h)

-- ---- what follows a value ends a word

safe_items_end : (ds : Items) (r : List ℕ) → ends_word (safe_items true ds ++ r) ≡ true
safe_items_end no_items r = refl
safe_items_end (item d ds) r = refl

items_end : (ds : Items) (r : List ℕ) → ends_word (items_text true ds ++ r) ≡ true
items_end no_items r = refl
items_end (item d ds) r = refl

safe_members_end : (ms : Members) (r : List ℕ) → ends_word (safe_members true ms ++ r) ≡ true
safe_members_end no_members r = refl
safe_members_end (member k d ms) r = refl

members_end : (ms : Members) (r : List ℕ) → ends_word (members_text true ms ++ r) ≡ true
members_end no_members r = refl
members_end (member k d ms) r = refl

-- ---- values, before texts that read alike

-- both texts have the same tokens
abbrev ReadAlike : List ℕ → List ℕ → Type 0
ReadAlike one other = lex between one ≡ lex between other

alike_after_comma : (later : Bool) (one other : List ℕ) → ReadAlike one other → ReadAlike (comma_if later ++ one) (comma_if later ++ other)
unfolding lex
alike_after_comma true one other h = ap (λ l. comma ∷ l) h
alike_after_comma false one other h = h

two : (a b c r : List ℕ) → (a ++ (b ++ c)) ++ r ≡ a ++ (b ++ (c ++ r))
two a b c r = simp append_assoc

three : (a b c d r : List ℕ) (x : ℕ) → (a ++ (b ++ x ∷ (c ++ d))) ++ r ≡ a ++ (b ++ x ∷ (c ++ (d ++ r)))
three a b c d r x = simp append_assoc

mutual
  unfolding lex

  alike : (d : Data) → HasNumbers (outline d) → (r q : List ℕ) → ends_word r ≡ true → ends_word q ≡ true → ReadAlike r q → ReadAlike (safe_text d ++ r) (compact_text d ++ q)
  alike null n r q hr hq h = lex-null r hr ∙ ap (λ l. token Token.null ∷ l) h ∙ sym (lex-null q hq)
  alike (boolean b) n r q hr hq h = lex-boolean b r hr ∙ ap (λ l. token (Token.boolean b) ∷ l) h ∙ sym (lex-boolean b q hq)
  alike (number m) n r q hr hq h = lex-number (number_text m) r n hr ∙ ap (λ l. token (Token.number (number_text m)) ∷ l) h ∙ sym (lex-number (number_text m) q n hq)
  alike (string s) n r q hr hq h = lex-safe_quoted s r ∙ ap (λ l. token (Token.string s) ∷ l) h ∙ sym (lex-quoted s q)
  alike (array ds) n r q hr hq h = ap (λ l. token Token.begin_array ∷ l) (alike_items false ds n r q h)
  alike (object ms) n r q hr hq h = ap (λ l. token Token.begin_object ∷ l) (alike_members false ms n r q h)

  alike_items : (later : Bool) (ds : Items) → ItemsHaveNumbers (items_outline ds) → (r q : List ℕ) → ReadAlike r q → ReadAlike (safe_items later ds ++ r) (items_text later ds ++ q)
  alike_items later no_items n r q h = ap (λ l. token Token.end_array ∷ l) h
  alike_items later (item d ds) n r q h =
      let more = alike_items true ds n.1 r q h in
      let one = alike d n.0 (safe_items true ds ++ r) (items_text true ds ++ q) (safe_items_end ds r) (items_end ds q) more in
      ap (lex between) (two (comma_if later) (safe_text d) (safe_items true ds) r) ∙ alike_after_comma later _ _ one
      ∙ sym (ap (lex between) (two (comma_if later) (compact_text d) (items_text true ds) q))

  alike_members : (later : Bool) (ms : Members) → MembersHaveNumbers (members_outline ms) → (r q : List ℕ) → ReadAlike r q → ReadAlike (safe_members later ms ++ r) (members_text later ms ++ q)
  alike_members later no_members n r q h = ap (λ l. token Token.end_object ∷ l) h
  alike_members later (member k d ms) n r q h =
      let more = alike_members true ms n.1 r q h in
      let one = alike d n.0 (safe_members true ms ++ r) (members_text true ms ++ q) (safe_members_end ms r) (members_end ms q) more in
      let pair : ReadAlike (script_safe (quoted k) ++ 58 ∷ (safe_text d ++ (safe_members true ms ++ r))) (quoted k ++ 58 ∷ (compact_text d ++ (members_text true ms ++ q))) =
      lex-safe_quoted k (58 ∷ (safe_text d ++ (safe_members true ms ++ r))) ∙ ap (λ l. token (Token.string k) ∷ colon ∷ l) one ∙ sym (lex-quoted k (58 ∷ (compact_text d ++ (members_text true ms ++ q)))) in
      ap (lex between) (three (comma_if later) (script_safe (quoted k)) (safe_text d) (safe_members true ms) r 58) ∙ alike_after_comma later _ _ pair
      ∙ sym (ap (lex between) (three (comma_if later) (quoted k) (compact_text d) (members_text true ms) q 58))

-- ---- the whole

abbrev value_of : List Lexeme → Option Data
value_of lexemes = option_and_then of_json (option_and_then (λ p. json.if_last p.0 p.1) (json.value max_depth (punctuate fresh lexemes)))

pub reads_as_plain : (d : Data) → HasNumbers (outline d) → read (page_data_text d) ≡ read (compact_text d)
reads_as_plain d n =
    ap read (safe-value d ∙ sym (append-nil (safe_text d))) ∙ ap value_of (alike d n [] [] refl refl refl) ∙ ap read (append-nil (compact_text d))
