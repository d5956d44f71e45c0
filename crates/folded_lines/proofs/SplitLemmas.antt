-- How bytes split at the ones that pass a test, and what is left of a head without its trailing ';'.
use Rattle.std.proofs.Common.{◌≡◌, ℕ, zero, suc, ◌+◌, ◌-◌, ◌<◌, ◌≤◌, ◌≢◌, Bool, true, false, List, [], ◌∷◌, ◌++◌, length, map, take, drop, slice_index, refl, sym, ap, ◌∙◌, arith, ⊎_elim}
use Rattle.std.specs.List.{slice_split, onto_first}
use Rattle.std.proofs.lemmas.Bool.{cases_Bool, cond-true, cond-false, ne_eqb}
use Rattle.std.proofs.lemmas.List.{take_more}
use Rattle.std.proofs.Math.Seq.{take-suc}
use Rattle.std.proofs.lemmas.List.Splits.{slice_split-cons_yes, slice_split-cons_no, length-slice_split}
use Rattle.folded_lines.specs.Lines.{is_semicolon, lossy_text, names_of, onto_kept, without_trailing_empty}
use Rattle.folded_lines.specs.checked.Cutting.{onto_trimmed, without_trailing_semicolons}
use Rattle.folded_lines.proofs.Cuts.{names_between}

is_false : (b : Bool) → ¬ (b ≡ true) → b ≡ false
is_false true not = absurd (not refl)
is_false false not = refl

-- where no byte passes the bytes are the one part
pub slice_split-none : (p : ℕ → Bool) (xs : List ℕ) → ((k : ℕ) → 0 ≤ k → k < length xs → ¬ (p (slice_index xs k) ≡ true)) → slice_split p xs ≡ xs ∷ []
slice_split-none p [] none = refl
slice_split-none p (x ∷ xs) none =
    slice_split-cons_no p x xs (is_false (p x) (none 0 (omega arith) (omega arith)))
    ∙ ap (onto_first x) (slice_split-none p xs (λ k low high. none (suc k) (omega arith) (omega arith)))

-- the first part ends at the first byte that passes
pub slice_split-at : (p : ℕ → Bool) (xs : List ℕ) (at : ℕ) → at < length xs → ((k : ℕ) → 0 ≤ k → k < at → ¬ (p (slice_index xs k) ≡ true))
    → p (slice_index xs at) ≡ true → slice_split p xs ≡ take at xs ∷ slice_split p (drop (suc at) xs)
slice_split-at p [] at within none here = absurd (omega arith)
slice_split-at p (x ∷ xs) zero within none here = slice_split-cons_yes p x xs here
slice_split-at p (x ∷ xs) (suc at) within none here =
    slice_split-cons_no p x xs (is_false (p x) (none 0 (omega arith) (omega arith)))
    ∙ ap (onto_first x) (slice_split-at p xs at (omega arith) (λ k low high. none (suc k) (omega arith) (omega arith)) here)

pub trimmed-semicolon : (xs : List ℕ) → without_trailing_semicolons (xs ++ 59 ∷ []) ≡ without_trailing_semicolons xs
trimmed-semicolon [] = refl
trimmed-semicolon (x ∷ xs) = ap (onto_trimmed x) (trimmed-semicolon xs)

onto_trimmed-some : (x b : ℕ) (xs : List ℕ) → onto_trimmed x (xs ++ b ∷ []) ≡ x ∷ (xs ++ b ∷ [])
onto_trimmed-some x b [] = refl
onto_trimmed-some x b (y ∷ ys) = refl

pub trimmed-other : (xs : List ℕ) (b : ℕ) → is_semicolon b ≡ false → without_trailing_semicolons (xs ++ b ∷ []) ≡ xs ++ b ∷ []
trimmed-other [] b other = cond-false _ _ _ other
trimmed-other (x ∷ xs) b other = ap (onto_trimmed x) (trimmed-other xs b other) ∙ onto_trimmed-some x b xs

-- the parts of trimmed bytes, none where nothing is left
abbrev pub parts_of : List ℕ → List (List ℕ)
parts_of [] = []
parts_of (b ∷ bytes) = slice_split is_semicolon (b ∷ bytes)

kept_nil : (name : List ℕ) (names : List (List ℕ)) → onto_kept name names ≡ [] → (name ≡ []) × (names ≡ [])
kept_nil [] [] is = (refl, refl)
kept_nil [] (next ∷ names) is = cc
kept_nil (b ∷ bs) names is = cc

kept_cons : (name : List ℕ) (names : List (List ℕ)) → 0 < length (onto_kept name names) → onto_kept name names ≡ name ∷ names
kept_cons [] [] some = absurd (omega arith)
kept_cons [] (next ∷ names) some = refl
kept_cons (b ∷ bs) names some = refl

split_some : (xs : List ℕ) → 0 < length (slice_split is_semicolon xs)
split_some xs = omega (arith, length-slice_split is_semicolon xs)

at_semicolon : (x : ℕ) (left : List ℕ) → is_semicolon x ≡ true → onto_kept [] (parts_of left) ≡ parts_of (onto_trimmed x left)
at_semicolon x [] passes = sym (ap parts_of (cond-true (is_semicolon x) [] (x ∷ []) passes))
at_semicolon x (b ∷ bytes) passes = onto_empty (parts_of (b ∷ bytes)) (split_some (b ∷ bytes)) ∙ sym (slice_split-cons_yes is_semicolon x (b ∷ bytes) passes)
  where
    onto_empty : (names : List (List ℕ)) → 0 < length names → onto_kept [] names ≡ [] ∷ names
    onto_empty [] some = absurd (omega arith)
    onto_empty (name ∷ names) some = refl

at_other : (x : ℕ) (left : List ℕ) (parts : List (List ℕ)) → 0 < length parts → without_trailing_empty parts ≡ parts_of left → is_semicolon x ≡ false
    → without_trailing_empty (onto_first x parts) ≡ parts_of (onto_trimmed x left)
at_other x left [] some same other = absurd (omega arith)
at_other x [] (part ∷ parts) some same other =
    let none = kept_nil part (without_trailing_empty parts) same in
    ap (λ t. (x ∷ t) ∷ without_trailing_empty parts) none.0 ∙ ap (λ t. (x ∷ []) ∷ t) none.1
    ∙ sym (ap parts_of (cond-false (is_semicolon x) [] (x ∷ []) other) ∙ slice_split-cons_no is_semicolon x [] other)
at_other x (b ∷ bytes) (part ∷ parts) some same other =
    let kept = kept_cons part (without_trailing_empty parts) (omega (arith, ap length same, split_some (b ∷ bytes))) in
    ap (onto_first x) (sym kept ∙ same) ∙ sym (slice_split-cons_no is_semicolon x (b ∷ bytes) other)

-- to drop the trailing empty parts is to drop the trailing ';' before the cut
pub without_trailing_empty-slice_split : (head : List ℕ) → without_trailing_empty (slice_split is_semicolon head) ≡ parts_of (without_trailing_semicolons head)
without_trailing_empty-slice_split [] = refl
without_trailing_empty-slice_split (x ∷ xs) =
    let rest = without_trailing_empty-slice_split xs in
    ⊎_elim
    (λ passes. ap without_trailing_empty (slice_split-cons_yes is_semicolon x xs passes) ∙ ap (onto_kept []) rest ∙ at_semicolon x _ passes)
    (λ other. ap without_trailing_empty (slice_split-cons_no is_semicolon x xs other) ∙ at_other x _ _ (split_some xs) rest other)
    (cases_Bool (is_semicolon x))

pub trimmed_step : (xs : List ℕ) (n : ℕ) → 0 < n → n ≤ length xs → slice_index xs (n - 1) ≡ 59
    → without_trailing_semicolons (take (n - 1) xs) ≡ without_trailing_semicolons (take n xs)
trimmed_step xs n some within here =
    let more : take n xs ≡ take (n - 1) xs ++ 59 ∷ [] =
    ap (λ k. take k xs) (by_omega n some) ∙ take_more xs (n - 1) 0 (omega arith) ∙ ap (λ b. take (n - 1) xs ++ b ∷ []) here in
    sym (ap without_trailing_semicolons more ∙ trimmed-semicolon (take (n - 1) xs))
  where
    by_omega : (m : ℕ) → 0 < m → m ≡ m - 1 + 1
    by_omega m h = omega arith

pub trimmed_stop : (xs : List ℕ) (n : ℕ) → n ≤ length xs → (0 < n → slice_index xs (n - 1) ≢ 59) → without_trailing_semicolons (take n xs) ≡ take n xs
trimmed_stop xs zero within stops = refl
trimmed_stop xs (suc n) within stops =
    let n_is : suc n - 1 ≡ n = omega arith in
    let more : take (suc n) xs ≡ take n xs ++ slice_index xs n ∷ [] = take-suc xs n 0 (omega arith) in
    let other : slice_index xs n ≢ 59 = λ is. stops (omega arith) (ap (slice_index xs) n_is ∙ is) in
    ap without_trailing_semicolons more ∙ trimmed-other (take n xs) (slice_index xs n) (ne_eqb (slice_index xs n) 59 other) ∙ sym more

-- the stack of a head of which nothing is left
pub names_of-nothing : (head left : List ℕ) → left ≡ without_trailing_semicolons head → length left ≡ 0 → names_of head ≡ []
names_of-nothing head [] is none =
    ap (map lossy_text) (without_trailing_empty-slice_split head ∙ ap parts_of (sym is))
names_of-nothing head (b ∷ bytes) is none = absurd (omega arith)

-- and of one of which something is
pub names_of-something : (head left : List ℕ) → left ≡ without_trailing_semicolons head → 0 < length left → names_of head ≡ names_between left
names_of-something head [] is some = absurd (omega arith)
names_of-something head (b ∷ bytes) is some =
    ap (map lossy_text) (without_trailing_empty-slice_split head ∙ ap parts_of (sym is))
