-- How the joined names grow by one name.
use Rattle.std.proofs.Common.{◌≡◌, ℕ, zero, suc, ◌+◌, ◌<◌, ◌≤◌, List, [], ◌∷◌, ◌++◌, length, take, get_or, map, refl, sym, ap, ◌∙◌, arith, append_assoc}
use Rattle.std.specs.List.{join_with_byte}
use Rattle.std.proofs.lemmas.List.{take_more, map-append, length-map, length-take-le}

pub join_with_byte-push : (c : ℕ) (x : List ℕ) (xs : List (List ℕ)) (y : List ℕ) → join_with_byte c ((x ∷ xs) ++ y ∷ []) ≡ join_with_byte c (x ∷ xs) ++ c ∷ y
join_with_byte-push c x [] y = refl
join_with_byte-push c x (z ∷ zs) y =
    ap (λ t. x ++ (c ∷ t)) (join_with_byte-push c z zs y) ∙ sym (append_assoc x (c ∷ join_with_byte c (z ∷ zs)) (c ∷ y))

grown : {S : Type 0} (f : S → List ℕ) (c : ℕ) (xs : List S) (i : ℕ) (x : S) → i < length xs → x ≡ get_or xs i x
    → join_with_byte c (map f (take (i + 1) xs)) ≡ join_with_byte c (map f (take i xs) ++ f x ∷ [])
grown f c xs i x within is =
    ap (λ t. join_with_byte c (map f t)) (take_more xs i x within) ∙ ap (λ e. join_with_byte c (map f (take i xs ++ e ∷ []))) (sym is)
    ∙ ap (join_with_byte c) (map-append f (take i xs) (x ∷ []))

-- the first name
pub join_with_byte-first : {S : Type 0} (f : S → List ℕ) (c : ℕ) (xs : List S) (i : ℕ) (x : S) → i ≤ 0 → i < length xs → x ≡ get_or xs i x
    → join_with_byte c (map f (take (i + 1) xs)) ≡ join_with_byte c (map f (take i xs)) ++ f x
join_with_byte-first f c xs zero x first within is = grown f c xs 0 x within is
join_with_byte-first f c xs (suc i) x first within is = absurd (omega arith)

after_some : (c : ℕ) (xs : List (List ℕ)) (y : List ℕ) → 0 < length xs → join_with_byte c (xs ++ y ∷ []) ≡ (join_with_byte c xs ++ c ∷ []) ++ y
after_some c [] y some = absurd (omega arith)
after_some c (x ∷ xs) y some = join_with_byte-push c x xs y ∙ sym (append_assoc (join_with_byte c (x ∷ xs)) (c ∷ []) y)

-- a later name, after the byte between
pub join_with_byte-later : {S : Type 0} (f : S → List ℕ) (c : ℕ) (xs : List S) (i : ℕ) (x : S) → 0 < i → i < length xs → x ≡ get_or xs i x
    → join_with_byte c (map f (take (i + 1) xs)) ≡ (join_with_byte c (map f (take i xs)) ++ c ∷ []) ++ f x
join_with_byte-later f c xs i x some within is =
    grown f c xs i x within is ∙ after_some c (map f (take i xs)) (f x) (omega (arith, length-map (take i xs) f, length-take-le i xs (omega arith)))
