-- How often a source stands in an order with one source more, and what stands at the place that an order has come to.
use Rattle.std.proofs.Common.{◌≡◌, ◌∙◌, ◌<◌, ◌≤◌, ◌+◌, ℕ, List, [], ◌∷◌, ◌++◌, length, take, drop, get_or, set, ap, refl, sym, subst, arith, inl, inr}
use Rattle.std.specs.List.{slice_get}
use Rattle.std.specs.Option.{option_map}
use Rattle.std.specs.Prelude.{Option, Some, nat_eq}
use Rattle.std.proofs.lemmas.Bool.{cases_eq, cases_lt}
use Rattle.std.proofs.lemmas.List.{get_or-map, get_or_default, get_or_past, get_or-set_same, get_or-set_other, length-map, length-take-le, take_all, take_more, take-append-drop}
use Rattle.std.proofs.lemmas.List.Sums.{count_by-le-length}
use Rattle.std.proofs.lemmas.Option.{get_or_from_slice_get, slice_get-get_or}
use Rattle.sample_tables.specs.declared.samples.Sample.{Sample}
use Rattle.sample_tables.specs.Rows.{sample_at}
use Rattle.stack_core.specs.Interleaving.{IsInterleaving, count_of, interleaved, list_of}
use Rattle.stack_core.specs.Ledgers.{ListState}
use Rattle.stack_core.proofs.InterleavingLemmas.{count_of-append, count_of_at, count_of_past, slice_get-interleaved, sources_of-interleaved}
use Rattle.merged_stacks.specs.Timeline.{samples_of}

pub count_of-push : (order : List ℕ) (source other : ℕ) → ((source ≡ other) → count_of other (order ++ source ∷ []) ≡ count_of other order + 1) × ((source ≡ other → ⊥) → count_of other (order ++ source ∷ []) ≡ count_of other order)
count_of-push order source other =
    let both = count_of-append other order (source ∷ []) in
    ((λ same. omega (arith, both, count_of_at other source [] same)), (λ apart. omega (arith, both, count_of_past other source [] apart)))

-- ---- the place that an order has come to

-- what stands at no place
abbrev pub no_pair : ℕ × Sample
no_pair = (0, record { stack = []; weight = 0 })

-- the next sample of a source stands in its list
pub next_within : (order : List ℕ) (lists : List (List Sample)) (p source : ℕ) → IsInterleaving order lists → p < length order → source ≡ get_or order p 0
    → (source < length lists) × (count_of source (take p order) < length (list_of lists source))
next_within order lists p source h within is =
    let one_more : count_of source (take (p + 1) order) ≡ count_of source (take p order) + 1 =
    ap (count_of source) (take_more order p 0 within) ∙ (count_of-push (take p order) (get_or order p 0) source).0 (sym is) in
    let all : count_of source order ≡ count_of source (take (p + 1) order) + count_of source (drop (p + 1) order) =
    ap (count_of source) (sym (take-append-drop (p + 1) order)) ∙ count_of-append source (take (p + 1) order) (drop (p + 1) order) in
    let within_list : count_of source (take p order) < length (list_of lists source) = omega (arith, one_more, all, h.as_often source) in
    let is_source : source < length lists = elim (cases_lt source (length lists)) [
      | inl below ↦ below
      | inr past ↦ absurd (omega (arith, within_list, ap length (get_or_past lists source [] past)))
    ] in
    (is_source, within_list)

-- the next sample is of one of the lists, and stands in it
pub next_of : (order : List ℕ) (lists : List ListState) (p : ℕ) → IsInterleaving order (samples_of lists) → p < length order
    → (get_or order p 0 < length lists) × (count_of (get_or order p 0) (take p order) < length (list_of (samples_of lists) (get_or order p 0)))
next_of order lists p ordered within =
    let next = next_within order (samples_of lists) p (get_or order p 0) ordered within refl in
    (omega (arith, next.0, length-map lists (λ (list : ListState). list.samples)), next.1)

-- what came of its source, where each source is counted
pub came_of_next : (order came : List ℕ) (lists : List ListState) (p at : ℕ) → IsInterleaving order (samples_of lists) → p < length order → length came ≡ length lists
    → ((source : ℕ) → source < length lists → get_or came source 0 ≡ count_of source (take p order)) → at ≡ get_or came (get_or order p 0) at → at ≡ count_of (get_or order p 0) (take p order)
came_of_next order came lists p at ordered within as_many counted is =
    let source = get_or order p 0 in
    let below : source < length lists = (next_of order lists p ordered within).0 in
    is ∙ (get_or_default came source at 0 (omega (arith, below, as_many)) ∙ counted source below)

-- a source counts less than all that came
pub count_at_most : (order : List ℕ) (p source : ℕ) → p ≤ length order → count_of source (take p order) ≤ p
count_at_most order p source within = omega (arith, count_by-le-length (λ entry. nat_eq entry source) (take p order), length-take-le p order within)

-- one more of a source came
pub counted_more : (before came : List ℕ) (source n : ℕ) → source < length came → get_or came source 0 ≡ count_of source before → n ≡ count_of source before + 1
    → (other : ℕ) → get_or came other 0 ≡ count_of other before → get_or (set came source n) other 0 ≡ count_of other (before ++ source ∷ [])
counted_more before came source n within counted is other known = elim (cases_eq source other) [
  | inl same ↦ ap (λ k. get_or (set came source n) k 0) (sym same) ∙ (get_or-set_same came source n 0 within ∙ (is ∙ sym (subst (λ k. count_of k (before ++ source ∷ []) ≡ count_of source before + 1) same ((count_of-push before source source).0 refl))))
  | inr apart ↦ get_or-set_other came source other n 0 (λ e. apart (sym e)) ∙ (known ∙ sym ((count_of-push before source other).1 apart))
]

-- what an order stands for at a place: the next sample of its source
pub pair_at : (lists : List (List Sample)) (order : List ℕ) (p source at : ℕ) → IsInterleaving order lists → p < length order → source ≡ get_or order p 0 → at ≡ count_of source (take p order)
    → at < length (list_of lists source) → get_or (interleaved order lists) p no_pair ≡ (source, sample_at (list_of lists source) at)
pair_at lists order p source at ordered within is counted in_list =
    let list = list_of lists source in
    get_or_from_slice_get (interleaved order lists) p (source, sample_at list at) no_pair
    (slice_get-interleaved order lists ordered p source (slice_get-get_or order p 0 within ∙ ap Some (sym is))
    ∙ ap (λ (found : Option Sample). option_map (λ (sample : Sample). (source, sample)) found)
    (ap (slice_get list) (sym counted) ∙ slice_get-get_or list at (record { stack = []; weight = 0 }) in_list))

pub length-interleaved : (lists : List (List Sample)) (order : List ℕ) → IsInterleaving order lists → length (interleaved order lists) ≡ length order
length-interleaved lists order ordered =
    sym (length-map (interleaved order lists) (λ (pair : ℕ × Sample). pair.0)) ∙ ap length (sources_of-interleaved order lists ordered)

-- what an order stands for, with the next sample of its source
pub interleaved_more : (lists : List (List Sample)) (order : List ℕ) (p source at : ℕ) → IsInterleaving order lists → p < length order → source ≡ get_or order p 0 → at ≡ count_of source (take p order)
    → at < length (list_of lists source) → take (p + 1) (interleaved order lists) ≡ take p (interleaved order lists) ++ (source, sample_at (list_of lists source) at) ∷ []
interleaved_more lists order p source at ordered within is counted in_list =
    take_more (interleaved order lists) p no_pair (omega (arith, within, length-interleaved lists order ordered))
    ∙ ap (λ pair. take p (interleaved order lists) ++ pair ∷ []) (pair_at lists order p source at ordered within is counted in_list)

pub interleaved_all : (lists : List (List Sample)) (order : List ℕ) (p : ℕ) → IsInterleaving order lists → length order ≤ p → take p (interleaved order lists) ≡ interleaved order lists
interleaved_all lists order p ordered past = take_all p (interleaved order lists) (omega (arith, past, length-interleaved lists order ordered))

-- the list of a source, among the samples of lists
pub list_at : (lists : List ListState) (k : ℕ) (list : ListState) → k < length lists → list ≡ get_or lists k list → list_of (samples_of lists) k ≡ list.samples
list_at lists k list within is = get_or-map (λ (list : ListState). list.samples) lists k list [] within ∙ ap (λ (list : ListState). list.samples) (sym is)
