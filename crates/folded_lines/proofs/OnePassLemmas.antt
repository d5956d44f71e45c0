-- To make a head text and then cut it is to cut it and then make each name text.
use Rattle.std.proofs.Common.{◌≡◌, ◌≢◌, ℕ, ◌<◌, false, List, [], ◌∷◌, ◌++◌, length, ⊎_elim, map, All, refl, sym, ap, subst, ◌∙◌, arith}
use Rattle.std.specs.List.{slice_split, onto_first, join_with_byte}
use Rattle.std.proofs.lemmas.Bool.{cases_Bool, ne_eqb, eqb-false}
use Rattle.std.proofs.lemmas.List.{length-map}
use Rattle.std.proofs.lemmas.List.Elements.{All-nil, All-cons, All-head, All-tail, All-map, All-weaker}
use Rattle.std.proofs.lemmas.List.Splits.{slice_split-cons_yes, slice_split-cons_no, slice_split_none, slice_split_at, length-slice_split, join_with_byte-slice_split}
use Rattle.folded_lines.specs.Lines.{is_semicolon, lossy_text}
use Rattle.folded_lines.proofs.Cuts.{names_between}
use Rattle.folded_lines.proofs.LossyLemmas.{lossy_text-nil, lossy_text-ascii, lossy_text-keeps}

-- no byte is a ';'
abbrev pub HasNoSemicolon : List ℕ → Type 0
HasNoSemicolon bytes = All (λ b. b ≢ 59) bytes

pub no_match : (bytes : List ℕ) → HasNoSemicolon bytes → All (λ b. is_semicolon b ≡ false) bytes
no_match bytes none = All-weaker (λ b. b ≢ 59) (λ b. is_semicolon b ≡ false) (λ b other. ne_eqb b 59 other) bytes none

-- a name without a ';' gets none
lossy_text-no_semicolon : (bytes : List ℕ) → HasNoSemicolon bytes → HasNoSemicolon (lossy_text bytes)
lossy_text-no_semicolon = lossy_text-keeps (λ b. b ≢ 59) (λ b wide. λ is. omega arith)

lossy_text-join : (parts : List (List ℕ)) → lossy_text (join_with_byte 59 parts) ≡ join_with_byte 59 (map lossy_text parts)
lossy_text-join [] = lossy_text-nil
lossy_text-join (x ∷ []) = refl
lossy_text-join (x ∷ y ∷ xs) = lossy_text-ascii x 59 (join_with_byte 59 (y ∷ xs)) (omega arith) ∙ ap (λ t. lossy_text x ++ 59 ∷ t) (lossy_text-join (y ∷ xs))

abbrev IsPart : (ℕ → Type 0) → List ℕ → Type 0
IsPart P part = All (λ b. (b ≢ 59) × P b) part

onto_part : (P : ℕ → Type 0) (b : ℕ) (parts : List (List ℕ)) → (b ≢ 59) × P b → All (IsPart P) parts → All (IsPart P) (onto_first b parts)
onto_part P b [] here all = All-cons (IsPart P) (b ∷ []) [] (All-cons (λ x. (x ≢ 59) × P x) b [] here (All-nil (λ x. (x ≢ 59) × P x))) all
onto_part P b (part ∷ parts) here all =
    All-cons (IsPart P) (b ∷ part) parts (All-cons (λ x. (x ≢ 59) × P x) b part here (All-head (IsPart P) part parts all)) (All-tail (IsPart P) part parts all)

-- no part has a ';', and what holds of all bytes holds of those of each part
pub parts_keep : (P : ℕ → Type 0) (bytes : List ℕ) → All P bytes → All (λ part. All (λ b. (b ≢ 59) × P b) part) (slice_split is_semicolon bytes)
parts_keep P [] all = All-cons (IsPart P) [] [] (All-nil (λ x. (x ≢ 59) × P x)) (All-nil (IsPart P))
parts_keep P (b ∷ bytes) all =
    let later = parts_keep P bytes (All-tail P b bytes all) in
    ⊎_elim
    (λ passes. subst (All (IsPart P)) (sym (slice_split-cons_yes is_semicolon b bytes passes))
    (All-cons (IsPart P) [] (slice_split is_semicolon bytes) (All-nil (λ x. (x ≢ 59) × P x)) later))
    (λ other. subst (All (IsPart P)) (sym (slice_split-cons_no is_semicolon b bytes other))
    (onto_part P b (slice_split is_semicolon bytes) (eqb-false b 59 other, All-head P b bytes all) later))
    (cases_Bool (is_semicolon b))

parts_clean : (bytes : List ℕ) → All HasNoSemicolon (slice_split is_semicolon bytes)
parts_clean bytes =
    All-weaker (IsPart (λ b. Unit {0})) HasNoSemicolon (All-weaker (λ b. (b ≢ 59) × Unit {0}) (λ b. b ≢ 59) (λ b here. here.0)) (slice_split is_semicolon bytes)
    (parts_keep (λ b. Unit {0}) bytes (λ k d within. tt))

-- names without a ';' are what their joined text is cut into
pub slice_split-join_clean : (parts : List (List ℕ)) → 0 < length parts → All HasNoSemicolon parts → slice_split is_semicolon (join_with_byte 59 parts) ≡ parts
slice_split-join_clean [] some clean = absurd (omega arith)
slice_split-join_clean (x ∷ []) some clean = slice_split_none is_semicolon x (no_match x (All-head HasNoSemicolon x [] clean))
slice_split-join_clean (x ∷ y ∷ ys) some clean =
    slice_split_at is_semicolon x 59 (join_with_byte 59 (y ∷ ys)) (no_match x (All-head HasNoSemicolon x (y ∷ ys) clean)) refl
    ∙ ap (λ t. x ∷ t) (slice_split-join_clean (y ∷ ys) (omega arith) (All-tail HasNoSemicolon x (y ∷ ys) clean))

-- a head made text and then cut
pub slice_split-lossy_text : (head : List ℕ) → slice_split is_semicolon (lossy_text head) ≡ names_between head
slice_split-lossy_text head =
    let parts = slice_split is_semicolon head in
    ap (λ t. slice_split is_semicolon (lossy_text t)) (sym (join_with_byte-slice_split 59 head)) ∙ ap (slice_split is_semicolon) (lossy_text-join parts)
    ∙ slice_split-join_clean (map lossy_text parts) (omega (arith, length-map parts lossy_text, length-slice_split is_semicolon head))
    (All-map HasNoSemicolon lossy_text parts (All-weaker HasNoSemicolon (λ part. HasNoSemicolon (lossy_text part)) lossy_text-no_semicolon parts (parts_clean head)))
