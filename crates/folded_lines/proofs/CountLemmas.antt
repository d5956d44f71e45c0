-- How many names a head has, and where it stands in a text.
use Rattle.std.proofs.Common.{◌≡◌, ℕ, zero, suc, ◌+◌, ◌-◌, ◌<◌, ◌≤◌, List, [], ◌∷◌, length, take, drop, slice_range, count_by, refl, ap, ◌∙◌, arith, inl, inr, ◌⊎◌, ⊎_elim}
use Rattle.std.proofs.lemmas.List.{length-take, length-drop, length-map}
use Rattle.std.proofs.lemmas.List.Splits.{length-slice_split}
use Rattle.std.proofs.lemmas.List.Sums.{count_by-le-length}
use Rattle.sample_tables.specs.declared.samples.TheConstants.{FRAME_LIMIT}
use Rattle.folded_lines.specs.Lines.{is_semicolon, lossy_text, names_of}
use Rattle.folded_lines.specs.checked.Cutting.{without_trailing_semicolons}
use Rattle.folded_lines.proofs.SplitLemmas.{names_of-nothing, names_of-something}

-- how many names a head has, by its ';'
names_of-length : (head left : List ℕ) → left ≡ without_trailing_semicolons head
    → ((length left ≡ 0) × (length (names_of head) ≡ 0)) ⊎ (length (names_of head) ≡ count_by is_semicolon left + 1)
names_of-length head [] is = inl (refl, ap length (names_of-nothing head [] is refl))
names_of-length head (b ∷ left) is =
    inr (ap length (names_of-something head (b ∷ left) is (omega arith)) ∙ length-map _ lossy_text ∙ length-slice_split is_semicolon (b ∷ left))

pub names_of-many : (head left : List ℕ) → left ≡ without_trailing_semicolons head → FRAME_LIMIT ≤ count_by is_semicolon left → FRAME_LIMIT < length (names_of head)
names_of-many head left is many =
    let few = count_by-le-length is_semicolon left in
    ⊎_elim (λ none. absurd (omega (arith, none.0, few, many))) (λ some. omega (arith, some, many)) (names_of-length head left is)

pub names_of-few : (head left : List ℕ) → left ≡ without_trailing_semicolons head → FRAME_LIMIT < length (names_of head) → FRAME_LIMIT ≤ count_by is_semicolon left
names_of-few head left is many =
    ⊎_elim (λ none. absurd (omega (arith, none.1, many))) (λ some. omega (arith, some, many)) (names_of-length head left is)

take-take : (n m : ℕ) (xs : List ℕ) → n ≤ m → take n (take m xs) ≡ take n xs
take-take zero m xs le = refl
take-take (suc n) zero xs le = absurd (omega arith)
take-take (suc n) (suc m) [] le = refl
take-take (suc n) (suc m) (x ∷ xs) le = ap (λ t. x ∷ t) (take-take n m xs (omega arith))

-- the head of a line that stands in a text
pub head_within : (bytes : List ℕ) (start end head : ℕ) → start ≤ end → end ≤ length bytes → head ≤ length (slice_range bytes start end)
    → (start + head ≤ end) × (take head (slice_range bytes start end) ≡ slice_range bytes start (start + head))
head_within bytes start end head order within few =
    let fits : start + head ≤ end = omega (arith, few, length-take (end - start) (drop start bytes), length-drop start bytes) in
    (fits, take-take head (end - start) (drop start bytes) (omega arith) ∙ ap (λ n. take n (drop start bytes)) (same start head))
  where
    same : (a b : ℕ) → b ≡ a + b - a
    same a b = omega arith
