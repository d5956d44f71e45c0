-- What is said of each of a list, one after another in some order.
use Rattle.std.proofs.Common.{◌≡◌, ◌≤◌, ◌<◌, ◌+◌, ◌∙◌, ◌++◌, ℕ, zero, suc, List, [], ◌∷◌, Option, Some, None, ◌⊎◌, ap, append_assoc, arith, inl, inr, length, length-append, refl, subst, sym}
use Rattle.std.specs.Prelude.{slice_get}
use Rattle.std.specs.List.{AllZip, flat_map, range_with_len}
use Rattle.std.proofs.lemmas.Bool.{cases_eq}
use Rattle.stack_core.specs.Interleaving.{count_of, of_source, sources_of}
use Rattle.stack_core.proofs.InterleavingLemmas.{count_of_at, count_of_past, of_source-append, of_source_at, slice_get_behind}
use Rattle.source_views.specs.Messages.{said_of_each}
use Rattle.flame_tool.specs.ToldLive.{EachOnce, IsSaidOfEach, said_at}

-- ---- pairs that have at most one item at each place

abbrev pub first_or : {A : Type 0} → A → List A → A
first_or none [] = none
first_or none (x ∷ xs) = x

-- what pairs have at a place, if anything
abbrev pub held_at : {A : Type 0} → A → List (ℕ × A) → ℕ → A
held_at none pairs at = first_or none (of_source at pairs)

only_one : {A : Type 0} (none : A) (xs : List A) (y : A) (ys : List A) → length (xs ++ y ∷ ys) ≤ 1 → first_or none (xs ++ y ∷ ys) ≡ y
only_one none [] y ys few = refl
only_one none (x ∷ xs) y ys few = absurd (omega (arith, few, length-append xs (y ∷ ys)))

held_here : {A : Type 0} (none : A) (before : List (ℕ × A)) (pair : ℕ × A) (rest : List (ℕ × A)) → length (of_source pair.0 (before ++ pair ∷ rest)) ≤ 1 → held_at none (before ++ pair ∷ rest) pair.0 ≡ pair.1
held_here none before pair rest few =
    let parts = of_source-append pair.0 before (pair ∷ rest) ∙ ap (λ more. of_source pair.0 before ++ more) (of_source_at pair.0 pair.0 pair.1 rest refl) in
    ap (first_or none) parts ∙ only_one none (of_source pair.0 before) pair.1 (of_source pair.0 rest) (subst (λ xs. length xs ≤ 1) parts few)

-- so what is said of each pair is what is said of what stands at its place
said_of_rest : {A : Type 0} (none : A) (say : ℕ → A → List ℕ) (before rest : List (ℕ × A)) → ((at : ℕ) → length (of_source at (before ++ rest)) ≤ 1)
    → flat_map (λ pair. say pair.0 pair.1) rest ≡ flat_map (λ at. say at (held_at none (before ++ rest) at)) (sources_of rest)
said_of_rest none say before [] few = refl
said_of_rest {A} none say before (pair ∷ rest) few =
    let whole : (before ++ pair ∷ []) ++ rest ≡ before ++ pair ∷ rest = append_assoc before (pair ∷ []) rest in
    let here = held_here none before pair rest (few pair.0) in
    let behind : flat_map (λ pair. say pair.0 pair.1) rest ≡ flat_map (λ at. say at (held_at none (before ++ pair ∷ rest) at)) (sources_of rest) =
    subst (λ (pairs : List (ℕ × A)). flat_map (λ pair. say pair.0 pair.1) rest ≡ flat_map (λ at. say at (held_at none pairs at)) (sources_of rest)) whole
    (said_of_rest none say (before ++ pair ∷ []) rest (subst (λ (pairs : List (ℕ × A)). (at : ℕ) → length (of_source at pairs) ≤ 1) (sym whole) few)) in
    λ i. say pair.0 (sym here i) ++ behind i

pub said_of_pairs : {A : Type 0} (none : A) (say : ℕ → A → List ℕ) (pairs : List (ℕ × A)) → ((at : ℕ) → length (of_source at pairs) ≤ 1)
    → flat_map (λ pair. say pair.0 pair.1) pairs ≡ flat_map (λ at. say at (held_at none pairs at)) (sources_of pairs)
said_of_pairs none say pairs few = said_of_rest none say [] pairs few

-- ---- in the order of the list

-- each of so many places from a first one on stands once, and no other
unranged : (at first count : ℕ) → (at < first) ⊎ (first + count ≤ at) → count_of at (range_with_len first count) ≡ 0
unranged at first zero out = refl
unranged at first (suc count) out =
    let apart : first ≡ at → ⊥ = λ same. omega (arith, same, out) in
    count_of_past at first (range_with_len (first + 1) count) apart ∙ unranged at (first + 1) count (elim out [ inl less ↦ inl (omega (arith, less)) | inr more ↦ inr (omega (arith, more)) ])

ranged : (at first count : ℕ) → first ≤ at → at < first + count → count_of at (range_with_len first count) ≡ 1
ranged at first zero from to = absurd (omega (arith, from, to))
ranged at first (suc count) from to = elim (cases_eq first at) [
  | inl same ↦ count_of_at at first (range_with_len (first + 1) count) same ∙ ap suc (unranged at (first + 1) count (inl (omega (arith, same))))
  | inr apart ↦ count_of_past at first (range_with_len (first + 1) count) apart ∙ ranged at (first + 1) count (omega (arith, from, apart)) (omega (arith, to))
]

in_order : (count : ℕ) → EachOnce count (range_with_len 0 count)
in_order count = record {
  once = λ at below. ranged at 0 count (omega arith) (omega (arith, below));
  no_other = λ at past. unranged at 0 count (inr (omega (arith, past)));
}

ordered_rest : {A : Type 0} (say : ℕ → A → List ℕ) (before rest : List A) → said_of_each say (length before) rest ≡ flat_map (said_at say (before ++ rest)) (range_with_len (length before) (length rest))
ordered_rest say before [] = refl
ordered_rest {A} say before (x ∷ rest) =
    let whole : (before ++ x ∷ []) ++ rest ≡ before ++ x ∷ rest = append_assoc before (x ∷ []) rest in
    let longer : length (before ++ x ∷ []) ≡ length before + 1 = length-append before (x ∷ []) in
    let here : say (length before) x ≡ said_at say (before ++ x ∷ rest) (length before) = ap (λ (found : Option A). elim found [ None ↦ [] | Some x ↦ say (length before) x ]) (sym (slice_get_behind before x rest)) in
    let behind : said_of_each say (length before + 1) rest ≡ flat_map (said_at say (before ++ x ∷ rest)) (range_with_len (length before + 1) (length rest)) =
    subst (λ (xs : List A). said_of_each say (length before + 1) rest ≡ flat_map (said_at say xs) (range_with_len (length before + 1) (length rest))) whole
    (subst (λ n. said_of_each say n rest ≡ flat_map (said_at say ((before ++ x ∷ []) ++ rest)) (range_with_len n (length rest))) longer (ordered_rest say (before ++ x ∷ []) rest)) in
    λ i. here i ++ behind i

pub said_in_order : {A : Type 0} (say : ℕ → A → List ℕ) (xs : List A) → IsSaidOfEach say xs (said_of_each say 0 xs)
said_in_order say xs = record { order = range_with_len 0 (length xs); each = in_order (length xs); is = ordered_rest say [] xs }

-- ---- of another list

-- two lists have at a place items of which this holds, or none
abbrev pub BothAt : {A B : Type 0} → (A → B → Type 0) → Option A → Option B → Type 0
BothAt R None None = Unit {0}
BothAt R None (Some y) = ⊥
BothAt R (Some x) None = ⊥
BothAt R (Some x) (Some y) = R x y

pub both_at : {A B : Type 0} (R : A → B → Type 0) (xs : List A) (ys : List B) → AllZip R xs ys → (at : ℕ) → BothAt R (slice_get xs at) (slice_get ys at)
both_at R [] [] zipped at = tt
both_at R [] (y ∷ ys) zipped at = absurd zipped
both_at R (x ∷ xs) [] zipped at = absurd zipped
both_at R (x ∷ xs) (y ∷ ys) zipped zero = zipped.0
both_at R (x ∷ xs) (y ∷ ys) zipped (suc at) = both_at R xs ys zipped.1 at

-- of which the same is said, place by place
pub said_alike : {A B : Type 0} (say : ℕ → A → List ℕ) (say' : ℕ → B → List ℕ) (xs : List A) (ys : List B) (said : List ℕ) → length xs ≡ length ys → ((at : ℕ) → said_at say xs at ≡ said_at say' ys at)
    → IsSaidOfEach say xs said → IsSaidOfEach say' ys said
said_alike say say' xs ys said many alike is = record {
  order = is.order;
  each = subst (λ count. EachOnce count is.order) many is.each;
  is = is.is ∙ (λ i. flat_map (λ at. alike at i) is.order);
}
