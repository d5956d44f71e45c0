-- How the text of a list grows by one value.
use Rattle.std.proofs.Common.{◌≡◌, ℕ, ◌+◌, ◌<◌, List, [], ◌∷◌, ◌++◌, length, take, get_or, map, Bool, true, false, refl, ap, ◌∙◌, arith, append_assoc, append-nil, lt-ltb}
use Rattle.std.specs.Prelude.{nat_lt}
use Rattle.std.proofs.lemmas.List.{map_more, length-map, length-take-le}
use Rattle.serde_json.specs.Data.{Data}
use Rattle.serde_json.specs.View.{items_of}
use Rattle.serde_json.specs.Written.{comma_if, compact_text, items_text}

-- the values with their commas, before the closing bracket
abbrev pub values_text : Bool → List Data → List ℕ
values_text later [] = []
values_text later (d ∷ ds) = comma_if later ++ (compact_text d ++ values_text true ds)

pub regroup : (a b c d : List ℕ) → a ++ (b ++ (c ++ d)) ≡ (a ++ (b ++ c)) ++ d
regroup a b c d = simp append_assoc

-- and with it
pub items_text-items_of : (later : Bool) (ds : List Data) → items_text later (items_of ds) ≡ values_text later ds ++ 93 ∷ []
items_text-items_of later [] = refl
items_text-items_of later (d ∷ ds) =
    ap (λ t. comma_if later ++ (compact_text d ++ t)) (items_text-items_of true ds) ∙ regroup (comma_if later) (compact_text d) (values_text true ds) (93 ∷ [])

after_some : (later : Bool) (c : Data) (ds : List Data) (d : Data) → values_text later ((c ∷ ds) ++ d ∷ []) ≡ values_text later (c ∷ ds) ++ (44 ∷ compact_text d)
after_some later c [] d =
    ap (λ t. comma_if later ++ (compact_text c ++ 44 ∷ t)) (append-nil (compact_text d)) ∙ regroup (comma_if later) (compact_text c) [] (44 ∷ compact_text d)
after_some later c (e ∷ ds) d =
    ap (λ t. comma_if later ++ (compact_text c ++ t)) (after_some true e ds d) ∙ regroup (comma_if later) (compact_text c) (values_text true (e ∷ ds)) (44 ∷ compact_text d)

values_text-push : (ds : List Data) (d : Data) → values_text false (ds ++ d ∷ []) ≡ values_text false ds ++ (comma_if (nat_lt 0 (length ds)) ++ compact_text d)
values_text-push [] d = append-nil (compact_text d)
values_text-push (c ∷ ds) d =
    let some : 0 < length (c ∷ ds) = omega arith in
    rw (lt-ltb 0 (length (c ∷ ds)) some) (after_some false c ds d)

-- one value more, after a comma where another stands before it
pub values_text-more : {S : Type 0} (f : S → Data) (xs : List S) (i : ℕ) (d : S) → i < length xs
    → values_text false (map f (take (i + 1) xs)) ≡ values_text false (map f (take i xs)) ++ (comma_if (nat_lt 0 i) ++ compact_text (f (get_or xs i d)))
values_text-more f xs i d within =
    let before = map f (take i xs) in
    let value = f (get_or xs i d) in
    let count : length before ≡ i = length-map (take i xs) f ∙ length-take-le i xs (omega arith) in
    ap (values_text false) (map_more f xs i d within) ∙ values_text-push before value
    ∙ ap (λ n. values_text false before ++ (comma_if (nat_lt 0 n) ++ compact_text value)) count
