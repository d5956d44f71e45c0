-- A text in quotes that was made safe reads as the text.
use Rattle.std.proofs.Common.{◌≡◌, ℕ, zero, suc, ◌<◌, ◌≤◌, ◌==◌, ◌/◌, ◌%◌, ◌&&◌, Bool, true, false, not, cond, List, [], ◌∷◌, ◌++◌, get_or, Option, Some, None, inl, inr, ◌⊎◌, refl, sym, ap, ◌∙◌, subst, arith, append_assoc, lt-ltb, codes}
use Rattle.std.specs.Prelude.{nat_lt, nat_le}
use Rattle.std.specs.Char.{digit_char, encode_utf8}
use Rattle.std.proofs.lemmas.Bool.{cases_eq, cases_lt, cases_Bool, ne_eqb, eqb-true, eqb-false, leb-true, lt-leb, le-ltb, and_parts, or_cases, not-true, false≢true}
use Rattle.json.specs.Lex.{Lexeme, Mode, lex, lex_byte, between, in_string, operator, space, other}
use Rattle.json.specs.Print.{escape_byte, escape_letter, escape}
use Rattle.json.specs.Text.{content, plain, prepend, code_unit, short_escape}
use Rattle.json.specs.Word.{is_operator, is_space}
use Rattle.json.proofs.Printed.Strings.{escape_byte_plain}
use Rattle.page_texts.specs.ScriptSafe.{script_safe, escaped, begins_separator}
use Rattle.page_texts.proofs.NoMarkup.{safe-other}
use Rattle.page_texts.proofs.Seams.{StaysByte, Stays}

-- ---- what a text stands for inside quotes

-- inside quotes the text is read as these bytes, whatever follows
record Stands (text bytes : List ℕ) : Type 0 where
  content : (r : List ℕ) → content plain (text ++ r) ≡ prepend bytes (content plain r)
  lexed : (r : List ℕ) → lex in_string (text ++ r) ≡ lex in_string r

-- the text has these bytes and the closing quote
pub record Closes (text bytes : List ℕ) : Type 0 where
  pub content : (r : List ℕ) → content plain (text ++ r) ≡ Some bytes
  pub lexed : (r : List ℕ) → lex in_string (text ++ r) ≡ lex between r

then_closes : (text bytes later rest : List ℕ) → Stands text bytes → Closes later rest → Closes (text ++ later) (bytes ++ rest)
then_closes text bytes later rest s c = record {
  content = λ r. ap (content plain) (append_assoc text later r) ∙ s.content (later ++ r) ∙ ap (prepend bytes) (c.content r);
  lexed = λ r. ap (lex in_string) (append_assoc text later r) ∙ s.lexed (later ++ r) ∙ c.lexed r;
}

stays_inside : (o s : Bool) (x : ℕ) (r : List ℕ) (k : Mode → List Lexeme) → lex_byte in_string (cond o operator (cond s space other)) x r k ≡ k in_string
stays_inside true s x r k = refl
stays_inside false true x r k = refl
stays_inside false false x r k = refl

passed : (x : ℕ) (r : List ℕ) → (x == 34) ≡ false → (x == 92) ≡ false → lex in_string (x ∷ r) ≡ lex in_string r
unfolding lex
passed x r q b = rw (q, b) (stays_inside (is_operator x) (is_space x) x r (λ m. lex m r))

plain_stands : (x : ℕ) → (x ≡ 34 → ⊥) → (x ≡ 92 → ⊥) → 32 ≤ x → Stands (x ∷ []) (x ∷ [])
unfolding content
plain_stands x q b l = record {
  content = λ r. rw (ne_eqb x 34 q, ne_eqb x 92 b, le-ltb x 32 l);
  lexed = λ r. passed x r (ne_eqb x 34 q) (ne_eqb x 92 b);
}

-- ---- the escapes of control characters, by their numbers

abbrev all_below : (ℕ → Bool) → ℕ → Bool
all_below test zero = true
all_below test (suc n) = test n && all_below test n

below : (test : ℕ → Bool) (n : ℕ) → all_below test n ≡ true → (x : ℕ) → x < n → test x ≡ true
below test zero h x less = absurd (omega arith)
below test (suc n) h x less = go (below test n (and_parts (test n) _ h).1 x) (cases_eq x n)
  where
    go : (x < n → test x ≡ true) → (x ≡ n) ⊎ (x ≡ n → ⊥) → test x ≡ true
    go lower (inl e) = subst (λ y. test y ≡ true) (sym e) (and_parts (test n) _ h).0
    go lower (inr ne) = lower (omega arith)

-- a letter that script_safe leaves, and no `u`
abbrev is_mild : ℕ → Bool
is_mild b = nat_le b 127 && (not (b == 60) && (not (b == 62) && (not (b == 38) && not (b == 117))))

abbrev is_inside : ℕ → Bool
is_inside b = is_mild b && (not (b == 34) && not (b == 92))

abbrev is_some_of : Option ℕ → ℕ → Bool
is_some_of None x = false
is_some_of (Some y) x = y == x

some_of : (o : Option ℕ) (x : ℕ) → is_some_of o x ≡ true → o ≡ Some x
some_of None x h = absurd (false≢true h)
some_of (Some y) x h = ap Some (eqb-true y x h)

mild_stays : (b : ℕ) → is_mild b ≡ true → StaysByte b
mild_stays b h =
    let p = and_parts (nat_le b 127) _ h in
    let q = and_parts (not (b == 60)) _ p.1 in
    let r = and_parts (not (b == 62)) _ q.1 in
    let s = and_parts (not (b == 38)) _ r.1 in
    (omega (arith, leb-true b 127 p.0), (eqb-false b 60 (not-true _ q.0), eqb-false b 62 (not-true _ r.0), eqb-false b 38 (not-true _ s.0)))

mild_is_no_u : (b : ℕ) → is_mild b ≡ true → (b == 117) ≡ false
mild_is_no_u b h =
    let p = and_parts (nat_le b 127) _ h in
    let q = and_parts (not (b == 60)) _ p.1 in
    let r = and_parts (not (b == 62)) _ q.1 in
    let s = and_parts (not (b == 38)) _ r.1 in
    not-true _ s.1

-- what stands for a byte, and is left as it is
record Escapes (text : List ℕ) (x : ℕ) : Type 0 where
  stands : Stands text (x ∷ [])
  stays : Stays text

low_stays : (b : ℕ) → 63 ≤ b → b < 128 → StaysByte b
low_stays b l h = (h, (λ e. omega arith, λ e. omega arith, λ e. omega arith))

digit_stays : (b : ℕ) → 48 ≤ b → b < 58 → StaysByte b
digit_stays b l h = (omega arith, (λ e. omega arith, λ e. omega arith, λ e. omega arith))

letter_escapes : (l x : ℕ) → is_mild l ≡ true → short_escape l ≡ Some x → Escapes (92 ∷ l ∷ []) x
unfolding content lex
letter_escapes l x mild e = record {
  stands = record { content = λ r. rw (mild_is_no_u l mild, e); lexed = λ r. refl };
  stays = (low_stays 92 (omega arith) (omega arith), (mild_stays l mild, tt));
}

digits_escape : (a b x : ℕ) → is_inside a ≡ true → is_inside b ≡ true → x < 32 → code_unit 48 48 a b ≡ Some x → Escapes (92 ∷ 117 ∷ 48 ∷ 48 ∷ a ∷ b ∷ []) x
unfolding content lex encode_utf8
digits_escape a b x ha hb small e =
    let p = and_parts (is_mild a) _ ha in
    let q = and_parts (is_mild b) _ hb in
    let pa = and_parts (not (a == 34)) _ p.1 in
    let pb = and_parts (not (b == 34)) _ q.1 in
    record {
      stands = record {
        content = λ r. rw (e, lt-leb 0xd800 x (omega arith), lt-leb 0xdc00 x (omega arith), lt-ltb x 128 (omega arith));
        lexed = λ r. passed a (b ∷ r) (not-true _ pa.0) (not-true _ pa.1) ∙ passed b r (not-true _ pb.0) (not-true _ pb.1);
      };
      stays = (
        low_stays 92 (omega arith) (omega arith),
        (low_stays 117 (omega arith) (omega arith), (digit_stays 48 (omega arith) (omega arith), (digit_stays 48 (omega arith) (omega arith), (mild_stays a p.0, (mild_stays b q.0, tt))))),
      );
    }

abbrev has_letter : ℕ → Bool
has_letter x = is_mild (escape_letter x) && cond (nat_lt 0 (escape_letter x)) (is_some_of (short_escape (escape_letter x)) x) true

abbrev has_digits : ℕ → Bool
has_digits x = is_inside (digit_char (x / 16)) && (is_inside (digit_char (x % 16)) && is_some_of (code_unit 48 48 (digit_char (x / 16)) (digit_char (x % 16))) x)

all_controls : all_below (λ x. has_letter x && has_digits x) 32 ≡ true
unfolding short_escape code_unit
all_controls = refl

control_escapes : (x : ℕ) → x < 32 → Escapes (escape_byte x) x
unfolding escape_byte
control_escapes x small = go (cases_Bool (nat_lt 0 (escape_letter x)))
  where
    tests : (has_letter x ≡ true) × (has_digits x ≡ true)
    tests = and_parts (has_letter x) _ (below (λ y. has_letter y && has_digits y) 32 all_controls x small)

    go : (nat_lt 0 (escape_letter x) ≡ true) ⊎ (nat_lt 0 (escape_letter x) ≡ false) → Escapes (escape_byte x) x
    go (inl e) =
        let same : escape_byte x ≡ 92 ∷ escape_letter x ∷ [] = rw e in
        let p = and_parts (is_mild (escape_letter x)) _ tests.0 in
        let short = some_of (short_escape (escape_letter x)) x (sym (ap (λ b. cond b (is_some_of (short_escape (escape_letter x)) x) true) e) ∙ p.1) in
        subst (λ text. Escapes text x) (sym same) (letter_escapes (escape_letter x) x p.0 short)
    go (inr e) =
        let same : escape_byte x ≡ 92 ∷ 117 ∷ 48 ∷ 48 ∷ digit_char (x / 16) ∷ digit_char (x % 16) ∷ [] = rw (e, lt-ltb x 32 small) in
        let p = and_parts (is_inside (digit_char (x / 16))) _ tests.1 in
        let q = and_parts (is_inside (digit_char (x % 16))) _ p.1 in
        subst (λ text. Escapes text x) (sym same) (digits_escape _ _ x p.0 q.0 small (some_of _ x q.1))

mark_escapes : (x : ℕ) → (x ≡ 34) ⊎ (x ≡ 92) → Escapes (escape_byte x) x
unfolding escape_byte content lex short_escape
mark_escapes x (inl e) = rw e record {
  stands = record { content = λ r. refl; lexed = λ r. refl };
  stays = (low_stays 92 (omega arith) (omega arith), ((omega arith, (λ e. omega arith, λ e. omega arith, λ e. omega arith)), tt));
}
mark_escapes x (inr e) = rw e record {
  stands = record { content = λ r. refl; lexed = λ r. refl };
  stays = (low_stays 92 (omega arith) (omega arith), (low_stays 92 (omega arith) (omega arith), tt));
}

-- ---- the five characters

escaped_stands : (x : ℕ) → (x ≡ 34 → ⊥) → (x ≡ 92 → ⊥) → 32 ≤ x → Stands (escaped x) (x ∷ [])
unfolding content lex code_unit encode_utf8
escaped_stands x q b l = go (cases_eq x 60) (cases_eq x 62) (cases_eq x 38)
  where
    go : (x ≡ 60) ⊎ (x ≡ 60 → ⊥) → (x ≡ 62) ⊎ (x ≡ 62 → ⊥) → (x ≡ 38) ⊎ (x ≡ 38 → ⊥) → Stands (escaped x) (x ∷ [])
    go (inl e) f g = rw e record { content = λ r. refl; lexed = λ r. refl }
    go (inr ne) (inl f) g = rw f record { content = λ r. refl; lexed = λ r. refl }
    go (inr ne) (inr nf) (inl g) = rw g record { content = λ r. refl; lexed = λ r. refl }
    go (inr ne) (inr nf) (inr ng) = rw (ne_eqb x 60 ne, ne_eqb x 62 nf, ne_eqb x 38 ng) (plain_stands x q b l)

line_stands : Stands (codes "\\u2028") (226 ∷ 128 ∷ 168 ∷ [])
unfolding content lex code_unit encode_utf8
line_stands = record { content = λ r. refl; lexed = λ r. refl }

paragraph_stands : Stands (codes "\\u2029") (226 ∷ 128 ∷ 169 ∷ [])
unfolding content lex code_unit encode_utf8
paragraph_stands = record { content = λ r. refl; lexed = λ r. refl }

-- ---- the whole text

-- its escapes and the closing quote
abbrev body : List ℕ → List ℕ
body [] = 34 ∷ []
body (x ∷ s) = escape_byte x ++ body s

body_is : (s : List ℕ) → escape s ++ 34 ∷ [] ≡ body s
body_is [] = refl
body_is (x ∷ s) = append_assoc (escape_byte x) (escape s) (34 ∷ []) ∙ ap (λ t. escape_byte x ++ t) (body_is s)

safe-after : (text later : List ℕ) → Stays text → script_safe (text ++ later) ≡ text ++ script_safe later
unfolding script_safe
safe-after [] later h = refl
safe-after (x ∷ text) later h =
    safe-other x (text ++ later) (rw (ne_eqb x 226 (λ e. omega (arith, h.0.0))))
    ∙ rw (ne_eqb x 60 h.0.1.0, ne_eqb x 62 h.0.1.1, ne_eqb x 38 h.0.1.2) (ap (λ t. x ∷ t) (safe-after text later h.1))

step : (x : ℕ) (s : List ℕ) → begins_separator x (body s) ≡ false → Closes (script_safe (body s)) s → Closes (script_safe (body (x ∷ s))) (x ∷ s)
step x s none closes = go (cases_eq x 34) (cases_eq x 92) (cases_lt x 32)
  where
    by_escape : Escapes (escape_byte x) x → Closes (script_safe (escape_byte x ++ body s)) (x ∷ s)
    by_escape e = subst (λ t. Closes t (x ∷ s)) (sym (safe-after (escape_byte x) (body s) e.stays)) (then_closes (escape_byte x) (x ∷ []) (script_safe (body s)) s e.stands closes)

    go : (x ≡ 34) ⊎ (x ≡ 34 → ⊥) → (x ≡ 92) ⊎ (x ≡ 92 → ⊥) → (x < 32) ⊎ (32 ≤ x) → Closes (script_safe (escape_byte x ++ body s)) (x ∷ s)
    go (inl e) b c = by_escape (mark_escapes x (inl e))
    go (inr q) (inl e) c = by_escape (mark_escapes x (inr e))
    go (inr q) (inr b) (inl small) = by_escape (control_escapes x small)
    go (inr q) (inr b) (inr l) =
        let text : script_safe (escape_byte x ++ body s) ≡ escaped x ++ script_safe (body s) = ap (λ t. script_safe (t ++ body s)) (escape_byte_plain x q b l) ∙ safe-other x (body s) none in
        subst (λ t. Closes t (x ∷ s)) (sym text) (then_closes (escaped x) (x ∷ []) (script_safe (body s)) s (escaped_stands x q b l) closes)

-- what shows in the escape of a byte, and is no letter of one, is the byte
shows : (y k : ℕ) (rest : List ℕ) → 128 ≤ k → get_or (escape_byte y ++ rest) 0 0 ≡ k → y ≡ k
unfolding escape_byte
shows y k rest high is = go (cases_Bool (nat_lt 0 (escape_letter y))) (cases_Bool (nat_lt y 32))
  where
    go : (nat_lt 0 (escape_letter y) ≡ true) ⊎ (nat_lt 0 (escape_letter y) ≡ false) → (nat_lt y 32 ≡ true) ⊎ (nat_lt y 32 ≡ false) → y ≡ k
    go (inl e) c = let first : get_or (escape_byte y ++ rest) 0 0 ≡ 92 = rw e in absurd (omega (arith, first, is))
    go (inr e) (inl c) = let first : get_or (escape_byte y ++ rest) 0 0 ≡ 92 = rw (e, c) in absurd (omega (arith, first, is))
    go (inr e) (inr c) = let first : get_or (escape_byte y ++ rest) 0 0 ≡ y = rw (e, c) in sym first ∙ is

behind : (y : ℕ) (rest : List ℕ) → y ≡ 128 → get_or (escape_byte y ++ rest) 1 0 ≡ get_or rest 0 0
unfolding escape_byte
behind y rest e = rw e

record Separates (x y z : ℕ) : Type 0 where
  first : x ≡ 226
  second : y ≡ 128
  third : (z ≡ 168) ⊎ (z ≡ 169)

separates : (x y z : ℕ) (rest : List ℕ) → begins_separator x (escape_byte y ++ (escape_byte z ++ rest)) ≡ true → Separates x y z
separates x y z rest h =
    let p = and_parts (x == 226) _ h in
    let q = and_parts (get_or (escape_byte y ++ (escape_byte z ++ rest)) 0 0 == 128) _ p.1 in
    let second = shows y 128 (escape_byte z ++ rest) (omega arith) (eqb-true _ 128 q.0) in
    let next = behind y (escape_byte z ++ rest) second in
    record {
      first = eqb-true x 226 p.0;
      second = second;
      third = elim (or_cases (get_or (escape_byte y ++ (escape_byte z ++ rest)) 1 0 == 168) _ q.1) [
        | inl e ↦ inl (shows z 168 rest (omega arith) (sym next ∙ eqb-true _ 168 e))
        | inr e ↦ inr (shows z 169 rest (omega arith) (sym next ∙ eqb-true _ 169 e))
      ];
    }

no_two : (x y : ℕ) → begins_separator x (escape_byte y ++ 34 ∷ []) ≡ true → ⊥
no_two x y h =
    let p = and_parts (x == 226) _ h in
    let q = and_parts (get_or (escape_byte y ++ 34 ∷ []) 0 0 == 128) _ p.1 in
    let second = shows y 128 (34 ∷ []) (omega arith) (eqb-true _ 128 q.0) in
    let next = behind y (34 ∷ []) second in
    elim (or_cases (get_or (escape_byte y ++ 34 ∷ []) 1 0 == 168) _ q.1) [
      | inl e ↦ omega (arith, next, eqb-true _ 168 e)
      | inr e ↦ omega (arith, next, eqb-true _ 169 e)
    ]

at_separator : (x y z : ℕ) (s : List ℕ) → Separates x y z → Closes (script_safe (body s)) s → Closes (script_safe (body (x ∷ y ∷ z ∷ s))) (x ∷ y ∷ z ∷ s)
unfolding script_safe escape_byte
at_separator x y z s h closes =
    rw (h.first, h.second)
    elim h.third [
      | inl e ↦ rw e (then_closes (codes "\\u2028") (226 ∷ 128 ∷ 168 ∷ []) (script_safe (body s)) s line_stands closes)
      | inr e ↦ rw e (then_closes (codes "\\u2029") (226 ∷ 128 ∷ 169 ∷ []) (script_safe (body s)) s paragraph_stands closes)
    ]

closes_body : (s : List ℕ) → Closes (script_safe (body s)) s
unfolding script_safe content lex
closes_body [] = record { content = λ r. refl; lexed = λ r. refl }
closes_body (x ∷ []) = step x [] (never (x == 226)) (closes_body [])
  where
    never : (b : Bool) → (b && false) ≡ false
    never true = refl
    never false = refl
closes_body (x ∷ y ∷ []) = go (closes_body (y ∷ [])) (cases_Bool (begins_separator x (body (y ∷ []))))
  where
    go : Closes (script_safe (body (y ∷ []))) (y ∷ []) → (begins_separator x (body (y ∷ [])) ≡ true) ⊎ (begins_separator x (body (y ∷ [])) ≡ false) → Closes (script_safe (body (x ∷ y ∷ []))) (x ∷ y ∷ [])
    go next (inl e) = absurd (no_two x y e)
    go next (inr e) = step x (y ∷ []) e next
closes_body (x ∷ y ∷ z ∷ s) = go (closes_body (y ∷ z ∷ s)) (closes_body s) (cases_Bool (begins_separator x (body (y ∷ z ∷ s))))
  where
    go : Closes (script_safe (body (y ∷ z ∷ s))) (y ∷ z ∷ s) → Closes (script_safe (body s)) s
        → (begins_separator x (body (y ∷ z ∷ s)) ≡ true) ⊎ (begins_separator x (body (y ∷ z ∷ s)) ≡ false) → Closes (script_safe (body (x ∷ y ∷ z ∷ s))) (x ∷ y ∷ z ∷ s)
    go next later (inl e) = at_separator x y z s (separates x y z (body s) e) later
    go next later (inr e) = step x (y ∷ z ∷ s) e next

pub safe_closes : (s : List ℕ) → Closes (script_safe (escape s ++ 34 ∷ [])) s
safe_closes s = subst (λ t. Closes (script_safe t) s) (sym (body_is s)) (closes_body s)
