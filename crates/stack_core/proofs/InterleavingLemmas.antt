-- An order of lists, what it stands for, and the form by source.
use Rattle.std.proofs.Common.{◌≡◌, ℕ, ◌+◌, ◌<◌, zero, suc, true, false, cond, List, [], ◌∷◌, ◌++◌, length, take, drop, map, refl, sym, ◌∙◌, ap, subst, arith, nat_eq, append_assoc, eq-eqb, inl, inr}
use Rattle.std.specs.Prelude.{filter, Some, All}
use Rattle.std.specs.List.{slice_get, slice_index_or}
use Rattle.std.specs.Option.{option_map, option_to_list}
use Rattle.std.proofs.lemmas.Bool.{cases_eq, cases_lt, ne_eqb}
use Rattle.std.proofs.lemmas.List.{map-append, append-nil, drop_all, take-append-drop, take-map, take_at, get_or_past}
use Rattle.std.proofs.lemmas.List.Elements.{filter-append}
use Rattle.std.proofs.lemmas.List.Sums.{sum_by-cons, sum_by-append}
use Rattle.stack_core.specs.Interleaving.{count_of, list_of, IsInterleaving, entry_after, interleaved_after, interleaved, sources_of, of_source, AreOf, counts_at, AreInterleaved}

-- one more pair in front, of this source or of another
pub of_source_at : {A : Type 0} (source other : ℕ) (item : A) (pairs : List (ℕ × A)) → other ≡ source → of_source source ((other, item) ∷ pairs) ≡ item ∷ of_source source pairs
of_source_at source other item pairs is = let same : nat_eq other source ≡ true = eq-eqb other source is in rw same refl

pub of_source_past : {A : Type 0} (source other : ℕ) (item : A) (pairs : List (ℕ × A)) → (other ≡ source → ⊥) → of_source source ((other, item) ∷ pairs) ≡ of_source source pairs
of_source_past source other item pairs apart = let differs : nat_eq other source ≡ false = ne_eqb other source apart in rw differs refl

pub of_source-append : {A : Type 0} (source : ℕ) (pairs more : List (ℕ × A)) → of_source source (pairs ++ more) ≡ of_source source pairs ++ of_source source more
of_source-append source pairs more =
    ap (map (λ pair. pair.1)) (filter-append (λ pair. nat_eq pair.0 source) pairs more)
    ∙ map-append (λ pair. pair.1) (filter (λ pair. nat_eq pair.0 source) pairs) (filter (λ pair. nat_eq pair.0 source) more)

pub count_of_at : (source other : ℕ) (order : List ℕ) → other ≡ source → count_of source (other ∷ order) ≡ suc (count_of source order)
count_of_at source other order is =
    let same : nat_eq other source ≡ true = eq-eqb other source is in
    sum_by-cons (λ entry. cond (nat_eq entry source) 1 0) other order ∙ rw same (omega arith)

pub count_of_past : (source other : ℕ) (order : List ℕ) → (other ≡ source → ⊥) → count_of source (other ∷ order) ≡ count_of source order
count_of_past source other order apart =
    let differs : nat_eq other source ≡ false = ne_eqb other source apart in
    sum_by-cons (λ entry. cond (nat_eq entry source) 1 0) other order ∙ rw differs (omega arith)

pub count_of-append : (source : ℕ) (order more : List ℕ) → count_of source (order ++ more) ≡ count_of source order + count_of source more
count_of-append source order more = sum_by-append (λ entry. cond (nat_eq entry source) 1 0) order more

-- a source stands in the order of the pairs as often as they have an item of it
pub length-of_source : {A : Type 0} (source : ℕ) (pairs : List (ℕ × A)) → length (of_source source pairs) ≡ count_of source (sources_of pairs)
length-of_source source [] = refl
length-of_source source (pair ∷ pairs) =
    let rest = length-of_source source pairs in
    elim (cases_eq pair.0 source) [
      | inl same ↦ ap length (of_source_at source pair.0 pair.1 pairs same) ∙ (ap suc rest ∙ sym (count_of_at source pair.0 (sources_of pairs) same))
      | inr apart ↦ ap length (of_source_past source pair.0 pair.1 pairs apart) ∙ (rest ∙ sym (count_of_past source pair.0 (sources_of pairs) apart))
    ]

-- the item behind a beginning
pub slice_get_behind : {A : Type 0} (xs : List A) (y : A) (ys : List A) → slice_get (xs ++ y ∷ ys) (length xs) ≡ Some y
slice_get_behind [] y ys = refl
slice_get_behind (x ∷ xs) y ys = slice_get_behind xs y ys

-- the item at a place, and what follows it
pub slice_get_drop : {A : Type 0} (xs : List A) (n : ℕ) → n < length xs → (y : A) × (slice_get xs n ≡ Some y) × (drop n xs ≡ y ∷ drop (suc n) xs)
slice_get_drop [] n within = absurd (omega arith)
slice_get_drop (x ∷ xs) zero within = (x, refl, refl)
slice_get_drop (x ∷ xs) (suc n) within = slice_get_drop xs n (omega arith)

-- the entries of pairs that follow others are these pairs, where all together are of the lists
pub interleaved_after-pairs : {A : Type 0} (lists : List (List A)) (before pairs : List (ℕ × A)) → ((source : ℕ) → of_source source (before ++ pairs) ≡ list_of lists source)
    → interleaved_after lists (sources_of before) (sources_of pairs) ≡ pairs
interleaved_after-pairs lists before [] of = refl
interleaved_after-pairs {A} lists before (pair ∷ pairs) of =
    let source = pair.0 in
    let behind : of_source source (before ++ pair ∷ pairs) ≡ of_source source before ++ pair.1 ∷ of_source source pairs =
    of_source-append source before (pair ∷ pairs) ∙ ap (λ more. of_source source before ++ more) (of_source_at source source pair.1 pairs refl) in
    let found : slice_get (list_of lists source) (count_of source (sources_of before)) ≡ Some pair.1 =
    rw (← (of source), behind, ← (length-of_source source before)) (slice_get_behind (of_source source before) pair.1 (of_source source pairs)) in
    let next : sources_of (before ++ pair ∷ []) ≡ sources_of before ++ source ∷ [] = map-append (λ p. p.0) before (pair ∷ []) in
    let rest : interleaved_after lists (sources_of (before ++ pair ∷ [])) (sources_of pairs) ≡ pairs =
    interleaved_after-pairs lists (before ++ pair ∷ []) pairs (λ s. ap (of_source s) (append_assoc before (pair ∷ []) pairs) ∙ of s) in
    rw (found, ← next, rest) refl

-- the form by source says which order the pairs have, and that they are what it stands for
pub AreOf-IsInterleaving : {A : Type 0} (pairs : List (ℕ × A)) (lists : List (List A)) → AreOf pairs lists → IsInterleaving (sources_of pairs) lists
AreOf-IsInterleaving pairs lists of = record { as_often = λ source. sym (length-of_source source pairs) ∙ ap length (of.by_source source) }

pub AreOf-interleaved : {A : Type 0} (pairs : List (ℕ × A)) (lists : List (List A)) → AreOf pairs lists → interleaved (sources_of pairs) lists ≡ pairs
AreOf-interleaved pairs lists of = interleaved_after-pairs lists [] pairs of.by_source

-- an entry of an order that holds no source too often
pub entry_after_is : {A : Type 0} (lists : List (List A)) (before : List ℕ) (source : ℕ) → count_of source before < length (list_of lists source)
    → (y : A) × (entry_after lists before source ≡ (source, y) ∷ []) × (drop (count_of source before) (list_of lists source) ≡ y ∷ drop (suc (count_of source before)) (list_of lists source))
entry_after_is lists before source within =
    let at = slice_get_drop (list_of lists source) (count_of source before) within in
    (at.0, ap (λ got. option_to_list (option_map (λ item. (source, item)) got)) at.1, at.2)

pub count_within : (source : ℕ) (before order : List ℕ) (n : ℕ) → count_of source (before ++ source ∷ order) ≡ n → count_of source before < n
count_within source before order n often =
    let more : count_of source (source ∷ order) ≡ suc (count_of source order) = count_of_at source source order refl in
    let both : count_of source (before ++ source ∷ order) ≡ count_of source before + count_of source (source ∷ order) = count_of-append source before (source ∷ order) in
    omega arith

-- what an order stands for has the sources of the order
pub sources_of-interleaved_after : {A : Type 0} (lists : List (List A)) (before order : List ℕ) → ((source : ℕ) → count_of source (before ++ order) ≡ length (list_of lists source))
    → sources_of (interleaved_after lists before order) ≡ order
sources_of-interleaved_after lists before [] often = refl
sources_of-interleaved_after lists before (source ∷ order) often =
    let entry = entry_after_is lists before source (count_within source before order (length (list_of lists source)) (often source)) in
    let rest : sources_of (interleaved_after lists (before ++ source ∷ []) order) ≡ order =
    sources_of-interleaved_after lists (before ++ source ∷ []) order (λ s. ap (count_of s) (append_assoc before (source ∷ []) order) ∙ often s) in
    ap (λ first. sources_of (first ++ interleaved_after lists (before ++ source ∷ []) order)) entry.1 ∙ ap (λ more. source ∷ more) rest

-- what it has of a source is what its list has from the place on that was reached before
pub of_source-interleaved_after : {A : Type 0} (lists : List (List A)) (before order : List ℕ) → ((source : ℕ) → count_of source (before ++ order) ≡ length (list_of lists source))
    → (source : ℕ) → of_source source (interleaved_after lists before order) ≡ drop (count_of source before) (list_of lists source)
of_source-interleaved_after lists before [] often source =
    let all : count_of source before ≡ length (list_of lists source) = ap (count_of source) (sym (append-nil before)) ∙ often source in
    sym (drop_all (count_of source before) (list_of lists source) (omega arith))
of_source-interleaved_after lists before (other ∷ order) often source =
    let entry = entry_after_is lists before other (count_within other before order (length (list_of lists other)) (often other)) in
    let rest : of_source source (interleaved_after lists (before ++ other ∷ []) order) ≡ drop (count_of source (before ++ other ∷ [])) (list_of lists source) =
    of_source-interleaved_after lists (before ++ other ∷ []) order (λ s. ap (count_of s) (append_assoc before (other ∷ []) order) ∙ often s) source in
    let first = ap (λ e. of_source source (e ++ interleaved_after lists (before ++ other ∷ []) order)) entry.1 in
    let more : count_of source (before ++ other ∷ []) ≡ count_of source before + count_of source (other ∷ []) = count_of-append source before (other ∷ []) in
    elim (cases_eq other source) [
      | inl same ↦
          let one : count_of source (before ++ other ∷ []) ≡ suc (count_of source before) = omega (arith, count_of_at source other [] same) in
          let P : ℕ → Type 0 = λ s. drop (count_of s before) (list_of lists s) ≡ entry.0 ∷ drop (suc (count_of s before)) (list_of lists s) in
          let at_source : P source = subst P same entry.2 in
          first ∙ (of_source_at source other entry.0 (interleaved_after lists (before ++ other ∷ []) order) same
          ∙ (ap (λ tail. entry.0 ∷ tail) (rest ∙ ap (λ n. drop n (list_of lists source)) one) ∙ sym at_source))
      | inr apart ↦
          let none : count_of source (before ++ other ∷ []) ≡ count_of source before = omega (arith, count_of_past source other [] apart) in
          first ∙ (of_source_past source other entry.0 (interleaved_after lists (before ++ other ∷ []) order) apart ∙ (rest ∙ ap (λ n. drop n (list_of lists source)) none))
    ]

pub sources_of-interleaved : {A : Type 0} (order : List ℕ) (lists : List (List A)) → IsInterleaving order lists → sources_of (interleaved order lists) ≡ order
sources_of-interleaved order lists is = sources_of-interleaved_after lists [] order is.as_often

pub IsInterleaving-AreOf : {A : Type 0} (order : List ℕ) (lists : List (List A)) → IsInterleaving order lists → AreOf (interleaved order lists) lists
IsInterleaving-AreOf order lists is = record { by_source = of_source-interleaved_after lists [] order is.as_often }

-- entry k has the source order[k] and the item of its list at the place that counts it among the first k
pub slice_get-interleaved_after : {A : Type 0} (lists : List (List A)) (before order : List ℕ) → ((source : ℕ) → count_of source (before ++ order) ≡ length (list_of lists source))
    → (k source : ℕ) → slice_get order k ≡ Some source → slice_get (interleaved_after lists before order) k ≡ option_map (λ item. (source, item)) (slice_get (list_of lists source) (count_of source (before ++ take k order)))
slice_get-interleaved_after lists before [] often k source is = absurd (cc)
slice_get-interleaved_after {A} lists before (first ∷ order) often zero source is =
    let same : first ≡ source = cc in
    let P : ℕ → Type 0 = λ s. slice_get (interleaved_after lists before (first ∷ order)) 0 ≡ option_map (λ (item : A). (s, item)) (slice_get (list_of lists s) (count_of s (before ++ []))) in
    let at = slice_get_drop (list_of lists first) (count_of first before) (count_within first before order (length (list_of lists first)) (often first)) in
    let found : slice_get (list_of lists first) (count_of first before) ≡ Some at.0 = at.1 in
    subst P same (rw (append-nil before, found) refl)
slice_get-interleaved_after {A} lists before (first ∷ order) often (suc k) source is =
    let entry = entry_after_is lists before first (count_within first before order (length (list_of lists first)) (often first)) in
    let rest = slice_get-interleaved_after lists (before ++ first ∷ []) order (λ s. ap (count_of s) (append_assoc before (first ∷ []) order) ∙ often s) k source is in
    ap (λ (e : List (ℕ × A)). slice_get (e ++ interleaved_after lists (before ++ first ∷ []) order) (suc k)) entry.1
    ∙ (rest ∙ ap (λ front. option_map (λ (item : A). (source, item)) (slice_get (list_of lists source) (count_of source front))) (append_assoc before (first ∷ []) (take k order)))

pub slice_get-interleaved : {A : Type 0} (order : List ℕ) (lists : List (List A)) → IsInterleaving order lists → (k source : ℕ) → slice_get order k ≡ Some source
    → slice_get (interleaved order lists) k ≡ option_map (λ item. (source, item)) (slice_get (list_of lists source) (counts_at k order source))
slice_get-interleaved order lists is k source at = slice_get-interleaved_after lists [] order is.as_often k source at

-- the first m pairs have of each source the beginning of its list that is counted among the first m
pub of_source-take : {A : Type 0} (pairs : List (ℕ × A)) (lists : List (List A)) → AreOf pairs lists → (m source : ℕ) → of_source source (take m pairs) ≡ take (counts_at m (sources_of pairs) source) (list_of lists source)
of_source-take pairs lists of m source =
    let front = of_source source (take m pairs) in
    let whole : front ++ of_source source (drop m pairs) ≡ list_of lists source =
    sym (of_source-append source (take m pairs) (drop m pairs)) ∙ (ap (of_source source) (take-append-drop m pairs) ∙ of.by_source source) in
    let count : length front ≡ counts_at m (sources_of pairs) source =
    length-of_source source (take m pairs) ∙ ap (count_of source) (sym (take-map (λ pair. pair.0) m pairs)) in
    sym (ap (take (counts_at m (sources_of pairs) source)) (sym whole) ∙ take_at front (of_source source (drop m pairs)) (counts_at m (sources_of pairs) source) count)

pub of_source-take_interleaved : {A : Type 0} (order : List ℕ) (lists : List (List A)) → IsInterleaving order lists → (m source : ℕ)
    → of_source source (take m (interleaved order lists)) ≡ take (counts_at m order source) (list_of lists source)
of_source-take_interleaved order lists is m source =
    of_source-take (interleaved order lists) lists (IsInterleaving-AreOf order lists is) m source
    ∙ ap (λ entries. take (counts_at m entries source) (list_of lists source)) (sources_of-interleaved order lists is)

-- the two forms are one
pub AreOf-AreInterleaved : {A : Type 0} (pairs : List (ℕ × A)) (lists : List (List A)) → AreOf pairs lists → AreInterleaved pairs lists
AreOf-AreInterleaved pairs lists of = record { order = AreOf-IsInterleaving pairs lists of; entries = AreOf-interleaved pairs lists of }

pub AreInterleaved-AreOf : {A : Type 0} (pairs : List (ℕ × A)) (lists : List (List A)) → AreInterleaved pairs lists → AreOf pairs lists
AreInterleaved-AreOf pairs lists are =
    let of = IsInterleaving-AreOf (sources_of pairs) lists are.order in
    record { by_source = λ source. ap (of_source source) (sym are.entries) ∙ of.by_source source }

-- what stands in a list is counted
pub count_of-member : (order : List ℕ) (k d : ℕ) → k < length order → 0 < count_of (slice_index_or order k d) order
count_of-member [] k d within = absurd (omega arith)
count_of-member (source ∷ order) zero d within = omega (arith, count_of_at source source order refl)
count_of-member (source ∷ order) (suc k) d within =
    let rest : 0 < count_of (slice_index_or order k d) order = count_of-member order k d (omega arith) in
    let more : count_of (slice_index_or order k d) (source ∷ order) ≡ count_of (slice_index_or order k d) (source ∷ []) + count_of (slice_index_or order k d) order =
    count_of-append (slice_index_or order k d) (source ∷ []) order in
    omega arith

-- an order of lists has their sources alone
pub IsInterleaving-within : {A : Type 0} (order : List ℕ) (lists : List (List A)) → IsInterleaving order lists → All (λ source. source < length lists) order
IsInterleaving-within {A} order lists is k d within =
    let source = slice_index_or order k d in
    let some : 0 < count_of source order = count_of-member order k d within in
    elim (cases_lt source (length lists)) [
      | inl below ↦ below
      | inr past ↦ let none : length (list_of lists source) ≡ 0 = ap length (get_or_past lists source [] past) in absurd (omega (arith, is.as_often source))
    ]
