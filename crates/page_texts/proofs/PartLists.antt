-- The text of parts, one after another.
use Rattle.std.proofs.Common.{◌≡◌, ℕ, ◌+◌, ◌<◌, ◌≤◌, ◌||◌, List, [], ◌∷◌, ◌++◌, length, take, drop, get_or, map, Bool, true, false, refl, sym, ap, ◌∙◌, arith, append-nil, take-append-drop, lt-ltb}
use Rattle.std.specs.Prelude.{nat_lt}
use Rattle.std.specs.List.{concat}
use Rattle.std.proofs.lemmas.List.{map-append, map_more, length-map, length-take-le, get_or-map, take-take, drop-take}
use Rattle.std.proofs.lemmas.List.Folds.{concat-append}
use Rattle.serde_json.specs.Data.{Data}
use Rattle.serde_json.specs.View.{items_of}
use Rattle.serde_json.specs.Written.{comma_if}
use Rattle.view_texts.proofs.JsonLists.{regroup}
use Rattle.page_texts.specs.declared.parts.Part.{Part}
use Rattle.page_texts.specs.checked.Parts.{part_text, parts_text}
use Rattle.page_texts.specs.checked.SafeText.{safe_items, safe_text, values_text}

-- one part more
pub parts_text-push : (parts : List Part) (part : Part) → parts_text (parts ++ part ∷ []) ≡ parts_text parts ++ part_text part
unfolding parts_text
parts_text-push parts part =
    ap concat (map-append part_text parts (part ∷ [])) ∙ concat-append (map part_text parts) (part_text part ∷ [])
    ∙ ap (λ text. concat (map part_text parts) ++ text) (append-nil (part_text part))

pub no_parts : parts_text [] ≡ []
unfolding parts_text
no_parts = refl

pub concat-parts : (parts : List Part) → concat (map part_text parts) ≡ parts_text parts
unfolding parts_text
concat-parts parts = refl

pub part_at : (parts : List Part) (at : ℕ) (part : Part) → at < length parts → get_or (map part_text parts) at [] ≡ part_text (get_or parts at part)
part_at parts at part within = get_or-map part_text parts at part [] within

-- ---- values in runs

-- and with the closing bracket
pub items_text-items_of : (later : Bool) (ds : List Data) → safe_items later (items_of ds) ≡ values_text later ds ++ 93 ∷ []
items_text-items_of later [] = refl
items_text-items_of later (d ∷ ds) =
    ap (λ t. comma_if later ++ (safe_text d ++ t)) (items_text-items_of true ds) ∙ regroup (comma_if later) (safe_text d) (values_text true ds) (93 ∷ [])

after_some : (later : Bool) (c : Data) (ds es : List Data) → values_text later ((c ∷ ds) ++ es) ≡ values_text later (c ∷ ds) ++ values_text true es
after_some later c [] es =
    ap (λ t. comma_if later ++ (safe_text c ++ t)) refl ∙ regroup (comma_if later) (safe_text c) [] (values_text true es)
after_some later c (e ∷ ds) es =
    ap (λ t. comma_if later ++ (safe_text c ++ t)) (after_some true e ds es) ∙ regroup (comma_if later) (safe_text c) (values_text true (e ∷ ds)) (values_text true es)

or_true : (later : Bool) → (later || true) ≡ true
or_true true = refl
or_true false = refl

or_false : (later : Bool) → (later || false) ≡ later
or_false true = refl
or_false false = refl

pub values_text-append : (later : Bool) (ds es : List Data) → values_text later (ds ++ es) ≡ values_text later ds ++ values_text (later || nat_lt 0 (length ds)) es
values_text-append later [] es = ap (λ b. values_text b es) (sym (or_false later))
values_text-append later (d ∷ ds) es =
    let some : 0 < length (d ∷ ds) = omega arith in
    after_some later d ds es ∙ ap (λ b. values_text later (d ∷ ds) ++ values_text b es) (sym (ap (λ b. later || b) (lt-ltb 0 (length (d ∷ ds)) some) ∙ or_true later))

-- one value more
pub values_text-next : {S : Type 0} (later : Bool) (f : S → Data) (xs : List S) (i : ℕ) (d : S) → i < length xs
    → values_text later (map f (take (i + 1) xs)) ≡ values_text later (map f (take i xs)) ++ (comma_if (later || nat_lt 0 i) ++ safe_text (f (get_or xs i d)))
values_text-next later f xs i d within =
    let before = map f (take i xs) in
    let value = f (get_or xs i d) in
    let count : length before ≡ i = length-map (take i xs) f ∙ length-take-le i xs (omega arith) in
    ap (values_text later) (map_more f xs i d within) ∙ values_text-append later before (value ∷ [])
    ∙ ap (λ n. values_text later before ++ (comma_if (later || nat_lt 0 n) ++ (safe_text value ++ []))) count
    ∙ ap (λ t. values_text later before ++ (comma_if (later || nat_lt 0 i) ++ t)) (append-nil (safe_text value))

-- a run more, up to `end`
pub values_text-run : {S : Type 0} (f : S → Data) (xs run : List S) (at end : ℕ) → at < length xs → take end xs ≡ take at xs ++ run
    → values_text false (map f (take end xs)) ≡ values_text false (map f (take at xs)) ++ values_text (nat_lt 0 at) (map f run)
values_text-run f xs run at end within longer =
    let before = map f (take at xs) in
    let count : length before ≡ at = length-map (take at xs) f ∙ length-take-le at xs (omega arith) in
    ap (λ ys. values_text false (map f ys)) longer ∙ ap (values_text false) (map-append f (take at xs) run)
    ∙ values_text-append false before (map f run) ∙ ap (λ n. values_text false before ++ values_text (nat_lt 0 n) (map f run)) count

pub front_and_run : {S : Type 0} (xs : List S) (at count : ℕ) → take (at + count) xs ≡ take at xs ++ take count (drop at xs)
front_and_run xs at count =
    let within : at ≤ at + count = omega arith in
    sym (take-append-drop at (take (at + count) xs)) ∙ ap (λ ys. ys ++ drop at (take (at + count) xs)) (take-take at (at + count) xs within)
    ∙ ap (λ ys. take at xs ++ ys) (drop-take at count xs)
