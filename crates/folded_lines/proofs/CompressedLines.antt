-- The first line of a text tells whether the text begins as gzip does.
use Rattle.std.proofs.Common.{◌≡◌, ℕ, zero, suc, ◌-◌, Bool, true, false, cond, ◌==◌, ◌&&◌, nat_lt, List, [], ◌∷◌, length, take, slice_index, refl, sym, ap, subst, ◌∙◌, arith}
use Rattle.std.proofs.lemmas.Bool.{and_parts, eqb-true}
use Rattle.bstr.specs.Text.{line_len, no_cr, without_terminator}
use Rattle.folded_lines.specs.Lines.{text_lines}
use Rattle.folded_lines.specs.Reading.{begins_compressed}
use Rattle.folded_lines.proofs.ScanLemmas.{text_lines-step, text_lines-none}

same_test : (a b : Bool) → (a ≡ true → b ≡ true) → (b ≡ true → a ≡ true) → a ≡ b
same_test true b there back = sym (there refl)
same_test false true there back = back refl
same_test false false there back = refl

abbrev IsGzip : List ℕ → Type 0
IsGzip bytes = begins_compressed bytes ≡ true

-- ---- what a front begins with, the whole begins with

front_is : (n : ℕ) (bytes : List ℕ) → IsGzip (take n bytes) → IsGzip bytes
front_is zero bytes is = cc
front_is (suc n) [] is = cc
front_is (suc zero) (b ∷ bytes) is = let none = (and_parts (b == 31) false is).1 in cc
front_is (suc (suc n)) (b ∷ []) is = is
front_is (suc (suc n)) (b ∷ c ∷ bytes) is = is

front_by : (test : Bool) (n : ℕ) (other bytes : List ℕ) → (IsGzip other → IsGzip bytes) → IsGzip (cond test (take n other) other) → IsGzip bytes
front_by true n other bytes whole is = whole (front_is n other is)
front_by false n other bytes whole is = whole is

no_cr_is : (bytes : List ℕ) → IsGzip (no_cr bytes) → IsGzip bytes
no_cr_is bytes is = front_by (nat_lt 0 (length bytes) && slice_index bytes (length bytes - 1) == 13) (length bytes - 1) bytes bytes (λ same. same) is

line_is_by : (test : Bool) (bytes : List ℕ) → IsGzip (cond test (no_cr (take (length bytes - 1) bytes)) bytes) → IsGzip bytes
line_is_by true bytes is = front_is (length bytes - 1) bytes (no_cr_is (take (length bytes - 1) bytes) is)
line_is_by false bytes is = is

line_is : (bytes : List ℕ) → IsGzip (without_terminator bytes) → IsGzip bytes
line_is bytes is = line_is_by (nat_lt 0 (length bytes) && slice_index bytes (length bytes - 1) == 10) bytes is

-- ---- and the other way, for a line

abbrev gzip : List ℕ → List ℕ
gzip more = 0x1f ∷ 0x8b ∷ more

less_one : (more : List ℕ) → length (gzip more) - 1 ≡ suc (length more)
less_one more = omega arith

is_no_cr_by : (test : Bool) (b : ℕ) (more : List ℕ) → IsGzip (cond test (take (suc (length (b ∷ more))) (gzip (b ∷ more))) (gzip (b ∷ more)))
is_no_cr_by true b more = refl
is_no_cr_by false b more = refl

is_no_cr : (more : List ℕ) → IsGzip (no_cr (gzip more))
is_no_cr [] = refl
is_no_cr (b ∷ more) =
    let all = gzip (b ∷ more) in
    subst (λ n. IsGzip (cond (nat_lt 0 (length all) && slice_index all n == 13) (take n all) all)) (sym (less_one (b ∷ more)))
    (is_no_cr_by (nat_lt 0 (length all) && slice_index all (suc (length (b ∷ more))) == 13) b more)

is_line_by : (test : Bool) (b : ℕ) (more : List ℕ) → IsGzip (cond test (no_cr (take (suc (length (b ∷ more))) (gzip (b ∷ more)))) (gzip (b ∷ more)))
is_line_by true b more = is_no_cr (take (length more) (b ∷ more))
is_line_by false b more = refl

is_line : (more : List ℕ) → IsGzip (without_terminator (gzip more))
is_line [] = refl
is_line (b ∷ more) =
    let all = gzip (b ∷ more) in
    subst (λ n. IsGzip (cond (nat_lt 0 (length all) && slice_index all n == 10) (no_cr (take n all)) all)) (sym (less_one (b ∷ more)))
    (is_line_by (nat_lt 0 (length all) && slice_index all (suc (length (b ∷ more))) == 10) b more)

first_is : (bytes : List ℕ) → IsGzip bytes → IsGzip (without_terminator (take (line_len bytes) bytes))
unfolding line_len
first_is [] is = cc
first_is (b ∷ []) is = let none = (and_parts (b == 31) false is).1 in cc
first_is (b ∷ c ∷ bytes) is =
    let parts = and_parts (b == 31) (c == 139) is in
    let one : b ≡ 31 = eqb-true b 31 parts.0 in
    let two : c ≡ 139 = eqb-true c 139 parts.1 in
    subst (λ (x : ℕ). IsGzip (without_terminator (take (line_len (x ∷ c ∷ bytes)) (x ∷ c ∷ bytes)))) (sym one)
    (subst (λ (x : ℕ). IsGzip (without_terminator (take (line_len (31 ∷ x ∷ bytes)) (31 ∷ x ∷ bytes)))) (sym two) (is_line (take (line_len bytes) bytes)))

by_first : (bytes : List ℕ) → begins_compressed bytes ≡ begins_compressed (without_terminator (take (line_len bytes) bytes))
by_first bytes = same_test _ _ (first_is bytes) (λ is. front_is (line_len bytes) bytes (line_is (take (line_len bytes) bytes) is))

abbrev first_of : List (List ℕ) → List ℕ
first_of [] = []
first_of (line ∷ lines) = line

-- a text begins so as its first line does
pub compressed_by_line : (bytes line : List ℕ) (more : List (List ℕ)) → text_lines bytes ≡ line ∷ more → begins_compressed bytes ≡ begins_compressed line
compressed_by_line [] line more is = let none : [] ≡ line ∷ more = sym text_lines-none ∙ is in cc
compressed_by_line (b ∷ bytes) line more is =
    by_first (b ∷ bytes) ∙ ap (λ lines. begins_compressed (first_of lines)) (sym (text_lines-step (b ∷ bytes) (omega arith)) ∙ is)
