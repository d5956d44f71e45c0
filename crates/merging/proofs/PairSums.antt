-- Sums over pairs in their order are sums over the lists of their sources.
use Rattle.std.proofs.Common.{◌≡◌, ◌<◌, ◌+◌, ℕ, zero, suc, List, [], ◌∷◌, length, set, take, sum_by, sym, ap, ◌∙◌, arith, refl, inl, inr}
use Rattle.std.proofs.lemmas.Bool.{cases_eq, cases_lt}
use Rattle.std.proofs.lemmas.List.{get_or_past, get_or-set_same, get_or-set_other}
use Rattle.std.proofs.lemmas.List.FromFn.{length-map-range_with_len, get_or-map-range_with_len}
use Rattle.std.proofs.lemmas.List.Sums.{sum_by-cons, sum_by-append}
use Rattle.sample_tables.specs.declared.samples.Sample.{Sample}
use Rattle.stack_core.specs.Interleaving.{AreOf, of_source, list_of, sources_of, counts_at}
use Rattle.stack_core.proofs.InterleavingLemmas.{of_source_at, of_source_past, of_source-take}
use Rattle.merging.specs.Sums.{all_samples}
use Rattle.merging.specs.Snapshots.{samples_of_pairs, first_samples, first_lists, snapshot_samples}

module _ (f : Sample → ℕ) where
  -- a list that is shorter by its first sample
  sum_by-set : (lists : List (List Sample)) (source : ℕ) (sample : Sample) (rest : List Sample) → source < length lists → list_of lists source ≡ sample ∷ rest
      → f sample + sum_by f (all_samples (set lists source rest)) ≡ sum_by f (all_samples lists)
  sum_by-set [] source sample rest l e = absurd (omega (arith, l))
  sum_by-set (list ∷ lists) zero sample rest l e =
      let longer = sum_by-append f list (all_samples lists) in
      let shorter = sum_by-append f rest (all_samples lists) in
      omega (arith, longer, shorter, ap (sum_by f) e, sum_by-cons f sample rest)
  sum_by-set (list ∷ lists) (suc source) sample rest l e =
      let later = sum_by-set lists source sample rest (omega (arith, l)) e in
      omega (arith, later, sum_by-append f list (all_samples lists), sum_by-append f list (all_samples (set lists source rest)))

  none_left : (lists : List (List Sample)) → ((source : ℕ) → [] ≡ list_of lists source) → sum_by f (all_samples lists) ≡ 0
  none_left [] h = refl
  none_left (list ∷ lists) h =
      omega (arith, sum_by-append f list (all_samples lists), ap (sum_by f) (sym (h 0)), none_left lists (λ source. h (suc source)))

  pub sum_by-of_lists : (pairs : List (ℕ × Sample)) (lists : List (List Sample)) → AreOf pairs lists → sum_by f (samples_of_pairs pairs) ≡ sum_by f (all_samples lists)
  sum_by-of_lists [] lists h = sym (none_left lists h.by_source)
  sum_by-of_lists (pair ∷ pairs) lists h =
      let source = pair.0 in
      let rest = of_source source pairs in
      let here : list_of lists source ≡ pair.1 ∷ of_source source pairs = sym (h.by_source source) ∙ of_source_at source source pair.1 pairs refl in
      let below : source < length lists = elim (cases_lt source (length lists)) [
        | inl l ↦ l
        | inr past ↦ (let none : [] ≡ pair.1 ∷ of_source source pairs = sym (get_or_past lists source [] past) ∙ here in absurd (cc))
      ] in
      let left : AreOf pairs (set lists source rest) = record {
        by_source = λ other. elim (cases_eq source other) [
          | inl same ↦ sym (ap (λ s. list_of (set lists source rest) s) (sym same) ∙ (get_or-set_same lists source rest [] below ∙ ap (λ s. of_source s pairs) same))
          | inr apart ↦
              sym (of_source_past other source pair.1 pairs apart) ∙ (h.by_source other ∙ sym (get_or-set_other lists source other rest [] (λ e. apart (sym e))))
        ];
      } in
      let later = sum_by-of_lists pairs (set lists source rest) left in
      omega (arith, sum_by-cons f pair.1 (samples_of_pairs pairs), later, sum_by-set lists source pair.1 rest below here)

-- the first m pairs are of the first lists
pub first-of_lists : (pairs : List (ℕ × Sample)) (lists : List (List Sample)) → AreOf pairs lists → (m : ℕ) → AreOf (take m pairs) (first_lists m (sources_of pairs) lists)
first-of_lists pairs lists h m = record {
  by_source = λ source. of_source-take pairs lists h m source ∙ sym (elim (cases_lt source (length lists)) [
    | inl below ↦ get_or-map-range_with_len (λ s. take (counts_at m (sources_of pairs) s) (list_of lists s)) 0 (length lists) source source [] below (omega arith)
    | inr past ↦
        get_or_past (first_lists m (sources_of pairs) lists) source [] (omega (arith, length-map-range_with_len (λ s. take (counts_at m (sources_of pairs) s) (list_of lists s)) 0 (length lists), past))
        ∙ sym (none (counts_at m (sources_of pairs) source) (get_or_past lists source [] past))
  ]);
}
  where
    none : {A : Type 0} {xs : List A} (n : ℕ) → xs ≡ [] → take n xs ≡ []
    none zero e = refl
    none {A} {xs} (suc n) e = ap (λ (ys : List A). take (suc n) ys) e

pub sum_by-first : (f : Sample → ℕ) (pairs : List (ℕ × Sample)) (lists : List (List Sample)) → AreOf pairs lists → (m : ℕ) → sum_by f (first_samples pairs m) ≡ sum_by f (snapshot_samples m (sources_of pairs) lists)
sum_by-first f pairs lists h m = sum_by-of_lists f (take m pairs) (first_lists m (sources_of pairs) lists) (first-of_lists pairs lists h m)
