-- The columns of a line, byte by byte from its front.
use Rattle.std.proofs.Common.{◌≡◌, ℕ, zero, suc, ◌+◌, Bool, true, false, cond, not, ◌||◌, Option, Some, None, List, [], ◌∷◌, ◌++◌, length, map, take, drop, slice_index, refl, sym, ap, ◌∙◌, arith, add-one}
use Rattle.std.specs.Option.{option_map}
use Rattle.std.specs.List.{list_all}
use Rattle.std.specs.Char.{is_ascii_digit}
use Rattle.std.proofs.lemmas.Bool.{and_left, and_right, and_parts, not-true}
use Rattle.memchr.specs.Find.{is_byte2, places, places_from, last_of}
use Rattle.folded_lines.specs.Lines.{last_blank, columns, is_number, is_point, ends_in_number}

abbrev pub is_blank : ℕ → Bool
is_blank = is_byte2 32 9

places_from-shift : (b : ℕ) (line : List ℕ) (i n : ℕ) → places_from is_blank (b ∷ line) (i + 1) n ≡ map (λ k. k + 1) (places_from is_blank line i n)
unfolding places_from
places_from-shift b line i zero = refl
places_from-shift b line i (suc n) =
    let later = places_from-shift b line (i + 1) n in
    let here : slice_index (b ∷ line) (i + 1) ≡ slice_index line i = ap (slice_index (b ∷ line)) (add-one i) in
    ap (λ x. cond (is_blank x) ((i + 1) ∷ places_from is_blank (b ∷ line) (i + 1 + 1) n) (places_from is_blank (b ∷ line) (i + 1 + 1) n)) here
    ∙ ap (λ t. cond (is_blank (slice_index line i)) ((i + 1) ∷ t) t) later ∙ by_test (is_blank (slice_index line i))
  where
    by_test : (t : Bool) → cond t ((i + 1) ∷ map (λ k. k + 1) (places_from is_blank line (i + 1) n)) (map (λ k. k + 1) (places_from is_blank line (i + 1) n))
        ≡ map (λ k. k + 1) (cond t (i ∷ places_from is_blank line (i + 1) n) (places_from is_blank line (i + 1) n))
    by_test true = refl
    by_test false = refl

places-whole : (line : List ℕ) → places is_blank line ≡ places_from is_blank line 0 (length line)
places-whole line = ap (places_from is_blank line 0) (omega arith)

places-cons : (b : ℕ) (line : List ℕ) → places is_blank (b ∷ line) ≡ cond (is_blank b) (0 ∷ map (λ k. k + 1) (places is_blank line)) (map (λ k. k + 1) (places is_blank line))
unfolding places_from
places-cons b line =
    places-whole (b ∷ line)
    ∙ ap (λ t. cond (is_blank b) (0 ∷ t) t) (places_from-shift b line 0 (length line) ∙ ap (map (λ k. k + 1)) (sym (places-whole line)))

last_of-map : (xs : List ℕ) → last_of (map (λ k. k + 1) xs) ≡ option_map (λ k. k + 1) (last_of xs)
unfolding last_of
last_of-map [] = refl
last_of-map (x ∷ []) = refl
last_of-map (x ∷ y ∷ ys) = last_of-map (y ∷ ys)

abbrev or_else : Option ℕ → Option ℕ → Option ℕ
or_else None other = other
or_else (Some x) other = Some x

last_of-some : (x : ℕ) (xs : List ℕ) (other : Option ℕ) → or_else (last_of (x ∷ xs)) other ≡ last_of (x ∷ xs)
unfolding last_of
last_of-some x [] other = refl
last_of-some x (y ∷ ys) other = last_of-some y ys other

last_of-cons : (x : ℕ) (xs : List ℕ) → last_of (x ∷ xs) ≡ or_else (last_of xs) (Some x)
unfolding last_of
last_of-cons x [] = refl
last_of-cons x (y ∷ ys) = sym (last_of-some y ys (Some x))

last_blank-cons : (b : ℕ) (line : List ℕ) → last_blank (b ∷ line) ≡ or_else (option_map (λ k. k + 1) (last_blank line)) (cond (is_blank b) (Some 0) None)
last_blank-cons b line = ap last_of (places-cons b line) ∙ by_test (is_blank b)
  where
    nothing : (o : Option ℕ) → o ≡ or_else o None
    nothing None = refl
    nothing (Some k) = refl

    by_test : (t : Bool) → last_of (cond t (0 ∷ map (λ k. k + 1) (places is_blank line)) (map (λ k. k + 1) (places is_blank line)))
        ≡ or_else (option_map (λ k. k + 1) (last_blank line)) (cond t (Some 0) None)
    by_test true = last_of-cons 0 _ ∙ ap (λ o. or_else o (Some 0)) (last_of-map (places is_blank line))
    by_test false = last_of-map (places is_blank line) ∙ nothing _

-- the columns of a line that begins with a byte, by those of the rest
abbrev pub columns_behind : Bool → ℕ → List ℕ → Option (List ℕ × List ℕ) → Option (List ℕ × List ℕ)
columns_behind blank b line (Some parts) = Some (b ∷ parts.0, parts.1)
columns_behind true b line None = Some ([], line)
columns_behind false b line None = None

pub columns-cons : (b : ℕ) (line : List ℕ) → columns (b ∷ line) ≡ columns_behind (is_blank b) b line (columns line)
columns-cons b line =
    ap (option_map (λ k. (take k (b ∷ line), drop (k + 1) (b ∷ line)))) (last_blank-cons b line) ∙ by_case (is_blank b) (last_blank line)
  where
    by_case : (t : Bool) (r : Option ℕ) → option_map (λ k. (take k (b ∷ line), drop (k + 1) (b ∷ line))) (or_else (option_map (λ k. k + 1) r) (cond t (Some 0) None))
        ≡ columns_behind t b line (option_map (λ k. (take k line, drop (k + 1) line)) r)
    by_case true None = refl
    by_case false None = refl
    by_case t (Some k) =
        ap (λ n. Some (take n (b ∷ line), drop (n + 1) (b ∷ line))) (add-one k)
        ∙ ap (λ n. Some (b ∷ take k line, drop n (b ∷ line))) (add-one (suc k) ∙ ap suc (sym (add-one k)))

-- a line of names, a blank and a number without blanks
pub columns-at : (head count : List ℕ) (b : ℕ) → columns count ≡ None → is_blank b ≡ true → columns (head ++ b ∷ count) ≡ Some (head, count)
columns-at [] count b none blank =
    columns-cons b count ∙ ap (columns_behind (is_blank b) b count) none ∙ ap (λ t. columns_behind t b count None) blank
columns-at (x ∷ head) count b none blank =
    columns-cons x (head ++ b ∷ count) ∙ ap (columns_behind (is_blank x) x (head ++ b ∷ count)) (columns-at head count b none blank)

pub columns-nil : columns [] ≡ None
unfolding places_from last_of
columns-nil = refl

-- no blank, no columns
pub columns-none : (line : List ℕ) → list_all (λ b. not (is_blank b)) line ≡ true → columns line ≡ None
columns-none [] all = columns-nil
columns-none (b ∷ line) all =
    let both = and_parts _ _ all in
    columns-cons b line ∙ ap (columns_behind (is_blank b) b line) (columns-none line both.1) ∙ ap (λ t. columns_behind t b line None) (not-true _ both.0)

-- a byte that neither stands between columns nor in a number
abbrev pub IsApart : ℕ → Type 0
IsApart s = (is_blank s ≡ false) × ((is_ascii_digit s || is_point s) ≡ false)

-- what is no number with such a byte in it
is_number-apart : (s : ℕ) → IsApart s → (front rest : List ℕ) → is_number (front ++ s ∷ rest) ≡ false
is_number-apart s apart front rest = and_right _ _ (and_left _ _ (holds front))
  where
    holds : (xs : List ℕ) → list_all (λ b. is_ascii_digit b || is_point b) (xs ++ s ∷ rest) ≡ false
    holds [] = and_left _ _ apart.1
    holds (x ∷ xs) = and_right _ _ (holds xs)

-- a line ends in a number where the part after its first such byte does
pub ends_in_number-apart : (s : ℕ) → IsApart s → (front rest : List ℕ) → ends_in_number (columns (front ++ s ∷ rest)) ≡ ends_in_number (columns rest)
ends_in_number-apart s apart [] rest =
    ap ends_in_number (columns-cons s rest) ∙ ap (λ t. ends_in_number (columns_behind t s rest (columns rest))) apart.0 ∙ by_case (columns rest)
  where
    by_case : (o : Option (List ℕ × List ℕ)) → ends_in_number (columns_behind false s rest o) ≡ ends_in_number o
    by_case None = refl
    by_case (Some parts) = refl
ends_in_number-apart s apart (b ∷ front) rest =
    let line = front ++ s ∷ rest in
    ap ends_in_number (columns-cons b line) ∙ by_case (is_blank b) (columns line) ∙ ends_in_number-apart s apart front rest
  where
    by_case : (t : Bool) (o : Option (List ℕ × List ℕ)) → ends_in_number (columns_behind t b (front ++ s ∷ rest) o) ≡ ends_in_number o
    by_case true None = is_number-apart s apart front rest
    by_case false None = refl
    by_case true (Some parts) = refl
    by_case false (Some parts) = refl

pub ends_in_number-after : (front rest : List ℕ) → ends_in_number (columns (front ++ 59 ∷ rest)) ≡ ends_in_number (columns rest)
ends_in_number-after = ends_in_number-apart 59 (refl, refl)
