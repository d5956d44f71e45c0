-- The names that a line gives: text without ';' and LF, the last not empty.
use Rattle.std.proofs.Common.{◌≡◌, ◌≢◌, ℕ, ◌<◌, ◌≤◌, true, false, not, ◌||◌, None, List, [], ◌∷◌, ◌++◌, length, map, All, refl, sym, ap, subst, ◌∙◌, arith, ⊎_elim}
use Rattle.std.specs.List.{slice_split, onto_first, join_with_byte, list_all}
use Rattle.std.specs.Char.{is_ascii_digit}
use Rattle.std.proofs.lemmas.Bool.{cases_Bool, and_parts, false≢true}
use Rattle.std.proofs.lemmas.Bool.Decides.{nat_tests}
use Rattle.std.proofs.lemmas.List.Elements.{All-nil, All-cons, All-head, All-tail, All-weaker, All-map}
use Rattle.std.proofs.lemmas.List.Splits.{slice_split-cons_yes, slice_split-cons_no, length-slice_split, join_with_byte-slice_split}
use Rattle.folded_lines.specs.Lines.{is_semicolon, columns, ends_in_number, is_number, is_point, lossy_text, names_of, onto_kept, without_trailing_empty}
use Rattle.folded_lines.specs.LastNames.{last_ends_in_number, ends_in_semicolon}
use Rattle.folded_lines.specs.ReadingBack.{EndsPlainly, IsPlainName}
use Rattle.folded_lines.proofs.BackLemmas.{all_kept}
use Rattle.folded_lines.proofs.ColumnLemmas.{is_blank, columns-nil, columns-at, columns-none, ends_in_number-after}
use Rattle.folded_lines.proofs.LossyLemmas.{lossy_text-ascii, lossy_text-keeps, lossy_text-from_ascii, lossy_text-some, IsUtf8-lossy_text}
use Rattle.folded_lines.proofs.NumberLemmas.{and_true}
use Rattle.folded_lines.proofs.OnePassLemmas.{parts_keep}

-- ---- each name

name_is_plain : (part : List ℕ) → All (λ b. (b ≢ 59) × (b ≢ 10)) part → IsPlainName (lossy_text part)
name_is_plain part none = record {
  text = IsUtf8-lossy_text part;
  whole = lossy_text-keeps (λ b. (b ≢ 59) × (b ≢ 10)) (λ b wide. (λ is. omega arith, λ is. omega arith)) part none;
}

onto_all : (P : List ℕ → Type 0) (name : List ℕ) (names : List (List ℕ)) → P name → All P names → All P (onto_kept name names)
onto_all P [] [] here all = all
onto_all P [] (next ∷ names) here all = All-cons P [] (next ∷ names) here all
onto_all P (b ∷ bs) names here all = All-cons P (b ∷ bs) names here all

kept_all : (P : List ℕ → Type 0) (names : List (List ℕ)) → All P names → All P (without_trailing_empty names)
kept_all P [] all = all
kept_all P (name ∷ names) all = onto_all P name (without_trailing_empty names) (All-head P name names all) (kept_all P names (All-tail P name names all))

pub names_are_plain : (head : List ℕ) → All (λ b. b ≢ 10) head → All IsPlainName (names_of head)
names_are_plain head none =
    let parts = slice_split is_semicolon head in
    All-map IsPlainName lossy_text (without_trailing_empty parts)
    (All-weaker (λ part. All (λ b. (b ≢ 59) × (b ≢ 10)) part) (λ part. IsPlainName (lossy_text part)) name_is_plain (without_trailing_empty parts)
    (kept_all (λ part. All (λ b. (b ≢ 59) × (b ≢ 10)) part) parts (parts_keep (λ b. b ≢ 10) head none)))

-- ---- the last name is not empty

-- the last name, if there is one, has a byte
abbrev pub LastIsSome : List (List ℕ) → Type 0
LastIsSome [] = Unit {0}
LastIsSome (name ∷ []) = 0 < length name
LastIsSome (name ∷ next ∷ names) = LastIsSome (next ∷ names)

onto_some : (name : List ℕ) (names : List (List ℕ)) → LastIsSome names → LastIsSome (onto_kept name names)
onto_some [] [] some = tt
onto_some [] (next ∷ names) some = some
onto_some (b ∷ bs) [] some = omega arith
onto_some (b ∷ bs) (next ∷ names) some = some

kept_some : (names : List (List ℕ)) → LastIsSome (without_trailing_empty names)
kept_some [] = tt
kept_some (name ∷ names) = onto_some name (without_trailing_empty names) (kept_some names)

lossy_some : (names : List (List ℕ)) → LastIsSome names → LastIsSome (map lossy_text names)
lossy_some [] some = tt
lossy_some (name ∷ []) some = lossy_text-some name some
lossy_some (name ∷ next ∷ names) some = lossy_some (next ∷ names) some

pub names_end_some : (head : List ℕ) → LastIsSome (names_of head)
names_end_some head =
    let parts = slice_split is_semicolon head in
    lossy_some (without_trailing_empty parts) (kept_some parts)

pub ends_plainly : (stack : List (List ℕ)) → LastIsSome stack → last_ends_in_number stack ≡ false → EndsPlainly stack
ends_plainly [] some other = tt
ends_plainly (name ∷ []) some other = (λ none. omega (arith, some, ap length none), other)
ends_plainly (name ∷ next ∷ names) some other = ends_plainly (next ∷ names) some other

-- ---- the last name's columns

-- bytes without a blank, or cut at the last one
data IsCut (name : List ℕ) : Type 0 where
  Whole : All (λ b. is_blank b ≡ false) name → IsCut name
  AtBlank : (front : List ℕ) (b : ℕ) (rest : List ℕ) → name ≡ front ++ b ∷ rest → is_blank b ≡ true → All (λ c. is_blank c ≡ false) rest → IsCut name

cut_behind : (b : ℕ) (name : List ℕ) → IsCut name → IsCut (b ∷ name)
cut_behind b name (Whole none) =
    ⊎_elim (λ blank. AtBlank [] b name refl blank none) (λ other. Whole (All-cons (λ c. is_blank c ≡ false) b name other none)) (cases_Bool (is_blank b))
cut_behind b name (AtBlank front c rest is blank none) = AtBlank (b ∷ front) c rest (ap (λ t. b ∷ t) is) blank none

cut_of : (name : List ℕ) → IsCut name
cut_of [] = Whole (All-nil (λ b. is_blank b ≡ false))
cut_of (b ∷ name) = cut_behind b name (cut_of name)

no_blanks : (bytes : List ℕ) → All (λ b. is_blank b ≡ false) bytes → list_all (λ b. not (is_blank b)) bytes ≡ true
no_blanks [] none = refl
no_blanks (b ∷ bytes) none =
    and_true _ _ (ap not (All-head (λ c. is_blank c ≡ false) b bytes none)) (no_blanks bytes (All-tail (λ c. is_blank c ≡ false) b bytes none))

wide_blank : (b : ℕ) → 128 ≤ b → is_blank b ≡ false
wide_blank b wide = grind (arith, nat_tests)

low_blank : (b : ℕ) → is_blank b ≡ true → b < 128
low_blank b blank = grind (arith, nat_tests)

pub columns-whole : (bytes : List ℕ) → All (λ b. is_blank b ≡ false) bytes → columns bytes ≡ None
columns-whole bytes none = columns-none bytes (no_blanks bytes none)

lossy_blanks : (bytes : List ℕ) → All (λ b. is_blank b ≡ false) bytes → All (λ b. is_blank b ≡ false) (lossy_text bytes)
lossy_blanks = lossy_text-keeps (λ b. is_blank b ≡ false) wide_blank

number_byte : (b : ℕ) → (is_ascii_digit b || is_point b) ≡ true → b < 128
number_byte b is = grind (arith, nat_tests)

number_bytes : (text : List ℕ) → list_all (λ b. is_ascii_digit b || is_point b) text ≡ true → All (λ b. b < 128) text
number_bytes [] all = All-nil (λ b. b < 128)
number_bytes (b ∷ text) all =
    let both = and_parts _ _ all in
    All-cons (λ c. c < 128) b text (number_byte b both.0) (number_bytes text both.1)

-- text is a number only where what was made text is
lossy_number : (text : List ℕ) → is_number text ≡ false → is_number (lossy_text text) ≡ false
lossy_number text other = ⊎_elim
    (λ is.
    let same = lossy_text-from_ascii text (number_bytes (lossy_text text) (and_parts _ _ (and_parts _ _ is).1).0) in
    absurd (false≢true (sym other ∙ sym (ap is_number same) ∙ is)))
    (λ no. no)
    (cases_Bool (is_number (lossy_text text)))

lossy_columns : (name : List ℕ) → IsCut name → ends_in_number (columns name) ≡ false → ends_in_number (columns (lossy_text name)) ≡ false
lossy_columns name (Whole none) other = ap ends_in_number (columns-whole (lossy_text name) (lossy_blanks name none))
lossy_columns name (AtBlank front b rest is blank none) other =
    let here = ap ends_in_number (ap columns is ∙ columns-at front rest b (columns-whole rest none) blank) in
    ap (λ t. ends_in_number (columns (lossy_text t))) is
    ∙ ap (λ t. ends_in_number (columns t)) (lossy_text-ascii front b rest (low_blank b blank))
    ∙ ap ends_in_number (columns-at (lossy_text front) (lossy_text rest) b (columns-whole (lossy_text rest) (lossy_blanks rest none)) blank)
    ∙ lossy_number rest (sym here ∙ other)

lossy_last : (names : List (List ℕ)) → last_ends_in_number names ≡ false → last_ends_in_number (map lossy_text names) ≡ false
lossy_last [] other = refl
lossy_last (name ∷ []) other = lossy_columns name (cut_of name) other
lossy_last (name ∷ next ∷ names) other = lossy_last (next ∷ names) other

-- ---- a head that does not end in ';'

last_of_join : (parts : List (List ℕ)) → last_ends_in_number parts ≡ ends_in_number (columns (join_with_byte 59 parts))
last_of_join [] = sym (ap ends_in_number columns-nil)
last_of_join (x ∷ []) = refl
last_of_join (x ∷ y ∷ xs) = last_of_join (y ∷ xs) ∙ sym (ends_in_number-after x (join_with_byte 59 (y ∷ xs)))

some_behind : (name : List ℕ) (names : List (List ℕ)) → 0 < length names → LastIsSome names → LastIsSome (name ∷ names)
some_behind name [] long some = absurd (omega arith)
some_behind name (next ∷ names) long some = some

some_onto : (b : ℕ) (parts : List (List ℕ)) → LastIsSome parts → LastIsSome (onto_first b parts)
some_onto b [] some = omega arith
some_onto b (part ∷ []) some = omega arith
some_onto b (part ∷ next ∷ parts) some = some

last_part : (head : List ℕ) → 0 < length head → ends_in_semicolon head ≡ false → LastIsSome (slice_split is_semicolon head)
last_part [] long other = absurd (omega arith)
last_part (b ∷ []) long other = subst LastIsSome (sym (slice_split-cons_no is_semicolon b [] other)) (omega arith)
last_part (b ∷ c ∷ bytes) long other =
    let later = last_part (c ∷ bytes) (omega arith) other in
    ⊎_elim
    (λ passes. subst LastIsSome (sym (slice_split-cons_yes is_semicolon b (c ∷ bytes) passes))
    (some_behind [] (slice_split is_semicolon (c ∷ bytes)) (omega (arith, length-slice_split is_semicolon (c ∷ bytes))) later))
    (λ no. subst LastIsSome (sym (slice_split-cons_no is_semicolon b (c ∷ bytes) no)) (some_onto b (slice_split is_semicolon (c ∷ bytes)) later))
    (cases_Bool (is_semicolon b))

same_kept : (parts : List (List ℕ)) → EndsPlainly parts → without_trailing_empty parts ≡ parts
same_kept [] plain = refl
same_kept (part ∷ parts) plain = all_kept part parts plain

-- the last name of a head that ends neither in ';' nor in a number
pub names_end_plainly : (head : List ℕ) → ends_in_semicolon head ≡ false → ends_in_number (columns head) ≡ false → last_ends_in_number (names_of head) ≡ false
names_end_plainly [] closed other = refl
names_end_plainly (b ∷ bytes) closed other =
    let head = b ∷ bytes in
    let parts = slice_split is_semicolon head in
    let last : last_ends_in_number parts ≡ false = last_of_join parts ∙ ap (λ t. ends_in_number (columns t)) (join_with_byte-slice_split 59 head) ∙ other in
    let plain = ends_plainly parts (last_part head (omega arith) closed) last in
    lossy_last (without_trailing_empty parts) (ap last_ends_in_number (same_kept parts plain) ∙ last)
