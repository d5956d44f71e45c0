-- How often sources stand in an order.
use Rattle.std.proofs.Common.{◌≡◌, ◌<◌, ◌≤◌, ◌+◌, ℕ, List, [], ◌∷◌, ◌++◌, length, take, drop, get_or, set, max, sym, ap, ◌∙◌, arith, inl, inr, refl, Option, Some, None}
use Rattle.std.specs.Prelude.{IfSome}
use Rattle.std.proofs.lemmas.Bool.{cases_eq, cases_lt}
use Rattle.std.proofs.lemmas.List.{ext_get_or, length-set, get_or-set_same, get_or-set_other, get_or_past, take_all, take-take, take-append-drop}
use Rattle.std.proofs.lemmas.List.FromFn.{length-map-range_with_len, get_or-map-range_with_len}
use Rattle.std.proofs.lemmas.List.Recursion.{max_push}
use Rattle.stack_core.specs.Interleaving.{count_of, counts_at, list_of, IsInterleaving}
use Rattle.sample_tables.specs.declared.samples.Sample.{Sample}
use Rattle.stack_core.proofs.InterleavingLemmas.{count_of-append, count_of_past}
use Rattle.source_lists.proofs.OrderLemmas.{count_of-push}
use Rattle.merging.specs.Snapshots.{sources_seen, source_counts, first_lists}

pub sources_seen-push : (order : List ℕ) (source : ℕ) → sources_seen (order ++ source ∷ []) ≡ max (sources_seen order) (source + 1)
sources_seen-push order source = max_push sources_seen (λ s. s + 1) refl (λ s rest. refl) order source

-- a source past those seen does not stand in the order
count_of_unseen : (order : List ℕ) (source : ℕ) → sources_seen order ≤ source → count_of source order ≡ 0
count_of_unseen [] source h = refl
count_of_unseen (first ∷ order) source h = count_of_past source first order (λ e. omega (arith, h, e)) ∙ count_of_unseen order source (omega (arith, h))

-- no source was counted yet
pub none_counted : (every : Option ℕ) (counts : List ℕ) → counts ≡ [] → IfSome every (λ every. counts ≡ source_counts [])
none_counted None counts e = tt
none_counted (Some every) counts e = e

pub length-source_counts : (order : List ℕ) → length (source_counts order) ≡ sources_seen order
length-source_counts order = length-map-range_with_len (λ source. count_of source order) 0 (sources_seen order)

-- the count of a source, which is 0 past the last entry
pub get_or-source_counts : (order : List ℕ) (source : ℕ) → get_or (source_counts order) source 0 ≡ count_of source order
get_or-source_counts order source = elim (cases_lt source (sources_seen order)) [
  | inl below ↦ get_or-map-range_with_len (λ s. count_of s order) 0 (sources_seen order) source source 0 below (omega arith)
  | inr past ↦ get_or_past (source_counts order) source 0 (omega (arith, length-source_counts order, past)) ∙ sym (count_of_unseen order source past)
]

-- one count more
pub source_counts-push : (order old padded : List ℕ) (source n : ℕ) → old ≡ source_counts order → length padded ≡ max (length old) (source + 1) → ((k : ℕ) → get_or padded k 0 ≡ get_or old k 0) → n ≡ get_or old source 0
    → set padded source (n + 1) ≡ source_counts (order ++ source ∷ [])
source_counts-push order old padded source n is long same at =
    let lengths : length (set padded source (n + 1)) ≡ length (source_counts (order ++ source ∷ [])) = omega (arith, length-set padded source (n + 1), long, ap length is, length-source_counts order, sources_seen-push order source, length-source_counts (order ++ source ∷ [])) in
    let known : (k : ℕ) → get_or old k 0 ≡ count_of k order = λ k. ap (λ counts. get_or counts k 0) is ∙ get_or-source_counts order k in
    ext_get_or 0 (set padded source (n + 1)) (source_counts (order ++ source ∷ [])) lengths (λ k within. elim (cases_eq source k) [
      | inl e ↦
          let there : source < length padded = omega (arith, long) in
          let here : get_or (set padded source (n + 1)) k 0 ≡ n + 1 = ap (λ j. get_or (set padded source (n + 1)) j 0) (sym e) ∙ get_or-set_same padded source (n + 1) 0 there in
          let one : n + 1 ≡ count_of k (order ++ source ∷ []) = omega (arith, at, known source, ap (λ j. count_of j order) e, (count_of-push order source k).0 e) in
          here ∙ (one ∙ sym (get_or-source_counts (order ++ source ∷ []) k))
      | inr apart ↦
          get_or-set_other padded source k (n + 1) 0 (λ e. apart (sym e)) ∙ (same k ∙ (known k ∙ (sym ((count_of-push order source k).1 apart) ∙ sym (get_or-source_counts (order ++ source ∷ []) k))))
    ])

-- ---- moments of an order

pub counts_at-rises : (m n : ℕ) (order : List ℕ) (source : ℕ) → m ≤ n → counts_at m order source ≤ counts_at n order source
counts_at-rises m n order source l =
    let front = take-take m n order l in
    let parts = count_of-append source (take m (take n order)) (drop m (take n order)) in
    let whole : count_of source (take m (take n order) ++ drop m (take n order)) ≡ count_of source (take n order) = ap (count_of source) (take-append-drop m (take n order)) in
    omega (arith, parts, whole, ap (count_of source) front)

-- when the whole order came, the first lists are the lists
pub first_lists-all : (order : List ℕ) (lists : List (List Sample)) → IsInterleaving order lists → first_lists (length order) order lists ≡ lists
first_lists-all order lists is =
    let first : ℕ → List Sample = λ source. take (counts_at (length order) order source) (list_of lists source) in
    let long = length-map-range_with_len first 0 (length lists) in
    ext_get_or [] (first_lists (length order) order lists) lists long (λ source within.
    let below : source < length lists = omega (arith, long) in
    let all : counts_at (length order) order source ≡ length (list_of lists source) = ap (count_of source) (take_all (length order) order (omega arith)) ∙ is.as_often source in
    get_or-map-range_with_len first 0 (length lists) source source [] below (omega arith) ∙ take_all (counts_at (length order) order source) (list_of lists source) (omega (arith, all)))
