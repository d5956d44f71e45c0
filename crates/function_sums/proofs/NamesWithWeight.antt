-- the names that stand in a sample with weight
use Rattle.std.proofs.Common.{◌≡◌, ℕ, ◌+◌, ◌<◌, Bool, true, false, cond, ◌||◌, List, [], ◌∷◌, ◌++◌, length, map, take, All, refl, sym, ap, ◌∙◌, arith}
use Rattle.std.specs.List.{list_any, filter, AllByRecursion, IsDistinct}
use Rattle.std.specs.Str.{bytes_eq}
use Rattle.std.proofs.lemmas.Bool.{false_from_ne_true, le-ltb, lt-ltb, true≢false}
use Rattle.std.proofs.lemmas.List.{append-nil}
use Rattle.std.proofs.lemmas.List.Elements.{All-head, All-tail, filter_more, filter_passes}
use Rattle.std.proofs.lemmas.List.Sums.{sum_by-cons}
use Rattle.std.proofs.lemmas.Map.Views.{any-filter_same}
use Rattle.sample_tables.specs.declared.samples.Sample.{Sample}
use Rattle.sample_tables.specs.Rows.{name_at}
use Rattle.merged_stacks.specs.RankedStacks.{sample_of}
use Rattle.function_sums.specs.FunctionSums.{stands_in, total_of}
use Rattle.function_sums.specs.checked.Counted.{has_weight, names_with_weight}
use Rattle.function_sums.proofs.Counting.{same_name, among-at}

-- ---- one name more

pub with_weight-more : (samples : List Sample) (names : List (List ℕ)) (n : ℕ) → n < length names → 0 < total_of (name_at names n) samples → names_with_weight samples (take (n + 1) names) ≡ names_with_weight samples (take n names) ++ name_at names n ∷ []
with_weight-more samples names n lt heavy =
    filter_more (has_weight samples) names n [] lt ∙ ap (λ b. names_with_weight samples (take n names) ++ cond b (name_at names n ∷ []) []) (lt-ltb 0 (total_of (name_at names n) samples) heavy)

pub with_weight-same : (samples : List Sample) (names : List (List ℕ)) (n : ℕ) → n < length names → total_of (name_at names n) samples ≡ 0 → names_with_weight samples (take (n + 1) names) ≡ names_with_weight samples (take n names)
with_weight-same samples names n lt light =
    filter_more (has_weight samples) names n [] lt ∙ ap (λ b. names_with_weight samples (take n names) ++ cond b (name_at names n ∷ []) []) (le-ltb 0 (total_of (name_at names n) samples) (omega (arith, light)))
    ∙ append-nil (names_with_weight samples (take n names))

-- ---- which names these are

pub each_weighs : (samples : List Sample) (names : List (List ℕ)) → All (λ name. has_weight samples name ≡ true) (names_with_weight samples names)
each_weighs samples names = filter_passes (has_weight samples) names

pub stays : (samples : List Sample) (name : List ℕ) (names : List (List ℕ)) → 0 < total_of name samples → list_any (bytes_eq name) names ≡ true → list_any (bytes_eq name) (names_with_weight samples names) ≡ true
stays samples name names heavy there =
    any-filter_same (bytes_eq name) (has_weight samples) true (λ other hit. ap (has_weight samples) (sym (same_name name other hit)) ∙ lt-ltb 0 (total_of name samples) heavy) names ∙ there

-- what is so of each stays so, and names that are apart stay apart
filter-each : {X K : Type 0} (P : K → Type 0) (f : X → K) (p : X → Bool) (xs : List X) → AllByRecursion P (map f xs) → AllByRecursion P (map f (filter p xs))
filter-each P f p [] each = tt
filter-each P f p (x ∷ xs) each = by (p x) (filter-each P f p xs each.1)
  where
    by : (b : Bool) → AllByRecursion P (map f (filter p xs)) → AllByRecursion P (map f (cond b (x ∷ filter p xs) (filter p xs)))
    by true rest = (each.0, rest)
    by false rest = rest

pub filter-apart : {X K : Type 0} (eq : K → K → Bool) (f : X → K) (p : X → Bool) (xs : List X) → IsDistinct eq (map f xs) → IsDistinct eq (map f (filter p xs))
unfolding IsDistinct
filter-apart eq f p [] apart = tt
filter-apart eq f p (x ∷ xs) apart = by (p x) (filter-apart eq f p xs apart.1)
  where
    by : (b : Bool) → IsDistinct eq (map f (filter p xs)) → IsDistinct eq (map f (cond b (x ∷ filter p xs) (filter p xs)))
    by true rest = (filter-each (λ y. eq (f x) y ≡ false) f p xs apart.0, rest)
    by false rest = rest

-- ---- a name that none of the ranks leads to stands in no stack

away : (name : List ℕ) (names : List (List ℕ)) (ranks : List ℕ) → All (λ rank. rank < length names) ranks → list_any (bytes_eq name) names ≡ false → stands_in name (map (name_at names) ranks) ≡ false
away name names [] below miss = refl
away name names (rank ∷ ranks) below miss =
    let P = λ (rank : ℕ). rank < length names in
    let other : bytes_eq name (name_at names rank) ≡ false = false_from_ne_true _ (λ hit. true≢false (sym (among-at name names rank (All-head P rank ranks below) (same_name name (name_at names rank) hit)) ∙ miss)) in
    λ i. other i || away name names ranks (All-tail P rank ranks below) miss i

pub weightless : (name : List ℕ) (names : List (List ℕ)) (rows : List (List ℕ × ℕ)) → All (λ row. All (λ rank. rank < length names) row.0) rows → list_any (bytes_eq name) names ≡ false → total_of name (map (sample_of names) rows) ≡ 0
weightless name names [] known miss = refl
weightless name names (row ∷ rows) known miss =
    let P = λ (row : List ℕ × ℕ). All (λ rank. rank < length names) row.0 in
    omega (
      arith,
      sum_by-cons (λ (sample : Sample). cond (stands_in name sample.stack) sample.weight 0) (sample_of names row) (map (sample_of names) rows),
      ap (λ b. cond b row.1 0) (away name names row.0 (All-head P row rows known) miss),
      weightless name names rows (All-tail P row rows known) miss,
    )
