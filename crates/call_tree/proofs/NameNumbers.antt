-- Names by their numbers, and tables that get longer.
use Rattle.std.proofs.Common.{◌≡◌, ℕ, ◌<◌, Bool, true, false, List, [], ◌∷◌, ◌++◌, length, drop, refl, sym, ap, ◌∙◌, arith, All, length-append, append_assoc, if◌then◌else◌}
use Rattle.std.specs.List.{list_any}
use Rattle.std.specs.Str.{bytes_eq}
use Rattle.std.proofs.lemmas.List.{append-nil, get_or_append_left, drop-append-le, drop_all}
use Rattle.std.proofs.lemmas.List.Elements.{All-weaker}
use Rattle.sample_tables.specs.Rows.{name_at}
use Rattle.stack_core.specs.NamesInOrder.{with_name, with_stack}
use Rattle.stack_core.specs.Prefixes.{IsPrefixOf}
use Rattle.stack_core.specs.Records.{names_at}
use Rattle.sample_tables.proofs.Spans.{map_agree}

-- one name more
pub with_stack_push : (names stack : List (List ℕ)) (name : List ℕ) → with_stack names (stack ++ name ∷ []) ≡ with_name (with_stack names stack) name
with_stack_push names [] name = refl
with_stack_push names (first ∷ stack) name = with_stack_push (with_name names first) stack name

-- numbers in a table are numbers in a longer one
pub numbers-longer : (names longer : List (List ℕ)) (frames : List ℕ) → IsPrefixOf names longer → All (λ k. k < length names) frames → All (λ k. k < length longer) frames
numbers-longer names longer frames prefix numbers =
    All-weaker (λ k. k < length names) (λ k. k < length longer) (λ k below. omega (arith, below, length-append names prefix.0, ap length prefix.1)) frames numbers

-- and of the same names
pub names_at-longer : (names longer : List (List ℕ)) (frames : List ℕ) → IsPrefixOf names longer → All (λ k. k < length names) frames → names_at longer frames ≡ names_at names frames
names_at-longer names longer frames prefix numbers =
    let keeps : (k : ℕ) → k < length names → name_at longer k ≡ name_at names k =
    λ k below. ap (λ all. name_at all k) (sym prefix.1) ∙ get_or_append_left names prefix.0 [] k below in
    map_agree (name_at longer) (name_at names) frames (All-weaker (λ k. k < length names) (λ k. name_at longer k ≡ name_at names k) keeps frames numbers)

pub IsPrefixOf-refl : {A : Type 0} (xs : List A) → IsPrefixOf xs xs
IsPrefixOf-refl xs = ([], append-nil xs)

pub IsPrefixOf-trans : {A : Type 0} (xs ys zs : List A) → IsPrefixOf xs ys → IsPrefixOf ys zs → IsPrefixOf xs zs
IsPrefixOf-trans xs ys zs first second =
    (first.0 ++ second.0, sym (append_assoc xs first.0 second.0) ∙ ap (λ front. front ++ second.0) first.1 ∙ second.1)

-- a name that is asked for changes none before it
pub IsPrefixOf-with_name : (names : List (List ℕ)) (name : List ℕ) → IsPrefixOf names (with_name names name)
IsPrefixOf-with_name names name = cases (list_any (bytes_eq name) names)
  where
    cases : (found : Bool) → IsPrefixOf names (if found then names else names ++ name ∷ [])
    cases true = IsPrefixOf-refl names
    cases false = (name ∷ [], refl)

-- what stands behind a prefix
pub IsPrefixOf-rest : {A : Type 0} (xs ys : List A) → IsPrefixOf xs ys → ys ≡ xs ++ drop (length xs) ys
IsPrefixOf-rest xs ys prefix =
    let rest = prefix.0 in
    let behind : drop (length xs) (xs ++ rest) ≡ rest = drop-append-le (length xs) xs rest (omega arith) ∙ ap (λ none. none ++ rest) (drop_all (length xs) xs (omega arith)) in
    sym prefix.1 ∙ ap (λ all. xs ++ all) (sym behind ∙ ap (drop (length xs)) prefix.1)
