-- Lists within the limits, and what they weigh.
use Rattle.std.proofs.Common.{◌≡◌, ◌<◌, ◌≤◌, ◌*◌, ◌^◌, ℕ, suc, List, [], ◌∷◌, length, take, sym, subst, arith, refl, All}
use Rattle.std.specs.List.{AllByRecursion}
use Rattle.std.proofs.lemmas.List.{length-map}
use Rattle.std.proofs.lemmas.List.Elements.{All-take, All-weaker, All-append}
use Rattle.std.proofs.lemmas.List.Sums.{sum_by-append, sum_by-take-le}
use Rattle.std.proofs.lemmas.Option.{get_or_from_slice_get}
use Rattle.sample_tables.specs.declared.samples.Sample.{Sample}
use Rattle.sample_tables.specs.declared.samples.TheConstants.{FRAME_LIMIT, WEIGHT_LIMIT}
use Rattle.sample_tables.specs.Samples.{IsLimited}
use Rattle.stack_core.specs.Reading.{Rest, IsSourceLimited}
use Rattle.stack_core.specs.Ledgers.{ListState}
use Rattle.stack_core.specs.Told.{IsCollected}
use Rattle.ring_collect.specs.Collection.{Collects, seen_as_rest}
use Rattle.ring_collect.proofs.RunLemmas.{at_index}
use Rattle.merged_stacks.specs.Merged.{all_samples}
use Rattle.merged_stacks.specs.Timeline.{samples_of, timeline, drawn, total_weight as weight_sum}
use Rattle.merged_stacks.proofs.Timelines.{total_weight-drawn}
use Rattle.source_lists.specs.Lists.{AreLimited}

-- ---- the limits of what was collected

limited-stopped : (rest : Rest) (i : ℕ) → IsSourceLimited rest.samples → IsSourceLimited (take i rest.samples)
limited-stopped rest i h = record {
  each = All-take IsLimited i rest.samples h.each;
  total = omega (arith, h.total, sum_by-take-le (λ (sample : Sample). sample.weight) rest.samples i);
}

limited-collected : (may_stop may_go : ℕ → ℕ → Type 0) (source : ℕ) (rest list : Rest) → IsCollected may_stop may_go source rest list → IsSourceLimited rest.samples → IsSourceLimited list.samples
limited-collected may_stop may_go source rest list (IsCollected.Whole go is) h = subst (λ (r : Rest). IsSourceLimited r.samples) (sym is) h
limited-collected may_stop may_go source rest list (IsCollected.StoppedAt i within stop go is) h = subst (λ (r : Rest). IsSourceLimited r.samples) (sym is) (limited-stopped rest i h)

collected-limited : (may_stop may_go : ℕ → ℕ → Type 0) (rests : List Rest) (lists : List ListState) → Collects may_stop may_go rests lists → All (λ rest. IsSourceLimited rest.samples) rests → All (λ list. IsSourceLimited list.samples) lists
collected-limited may_stop may_go rests lists h limits k d l =
    let many = h.count in
    let list = at_index lists k l in
    let rest = at_index rests k (omega arith) in
    let is = get_or_from_slice_get lists k list.0 d list.1 in
    let limited = subst (λ (r : Rest). IsSourceLimited r.samples) (get_or_from_slice_get rests k rest.0 rest.0 rest.1) (limits k rest.0 (omega arith)) in
    subst (λ (s : ListState). IsSourceLimited s.samples) (sym is) (limited-collected may_stop may_go k rest.0 (seen_as_rest list.0) (h.each k rest.0 list.0 rest.1 list.1) limited)

pub read_limited : (may_stop may_go : ℕ → ℕ → Type 0) (rests : List Rest) (lists : List ListState) → Collects may_stop may_go rests lists → All (λ rest. IsSourceLimited rest.samples) rests → length rests ≤ 64 → AreLimited lists
read_limited may_stop may_go rests lists h limits few = record { few = omega (arith, h.count, few); each = collected-limited may_stop may_go rests lists h limits }

-- ---- lists within the limits

-- at most 64 lists of samples, each within the limits of a source
pub record AreSmall (lists : List (List Sample)) : Type 0 where
  pub few : length lists ≤ 64
  pub each : AllByRecursion IsSourceLimited lists

total_small : (lists : List (List Sample)) → AllByRecursion IsSourceLimited lists → weight_sum (all_samples lists) ≤ length lists * WEIGHT_LIMIT
total_small [] h = omega arith
total_small (list ∷ lists) h = omega (arith, sum_by-append (λ (sample : Sample). sample.weight) list (all_samples lists), h.0.total, total_small lists h.1)

pub total_fits : (lists : List (List Sample)) → AreSmall lists → weight_sum (all_samples lists) < 2 ^ 64
total_fits lists h = omega (arith, total_small lists h.each, h.few)

pub depths_small : (lists : List (List Sample)) → AllByRecursion IsSourceLimited lists → All (λ sample. length sample.stack ≤ FRAME_LIMIT) (all_samples lists)
depths_small [] h = λ k d l. absurd (omega (arith, l))
depths_small (list ∷ lists) h =
    All-append (λ sample. length sample.stack ≤ FRAME_LIMIT) list (all_samples lists) (All-weaker IsLimited (λ sample. length sample.stack ≤ FRAME_LIMIT) (λ sample limited. limited.depth) list h.0.each) (depths_small lists h.1)

small-lists : (lists : List ListState) → All (λ list. IsSourceLimited list.samples) lists → AllByRecursion IsSourceLimited (samples_of lists)
small-lists [] h = tt
small-lists (list ∷ lists) h = (h 0 list (omega arith), small-lists lists (λ k d l. h (suc k) d (omega (arith, l))))

pub lists_small : (lists : List ListState) → AreLimited lists → AreSmall (samples_of lists)
lists_small lists h = record { few = omega (arith, h.few, length-map lists (λ list. list.samples)); each = small-lists lists h.each }

-- the timeline weighs what the lists do
pub timeline_weight : (lists : List (List Sample)) → weight_sum (timeline lists) ≡ weight_sum (all_samples lists)
timeline_weight [] = refl
timeline_weight (list ∷ lists) =
    omega (arith, sum_by-append (λ (sample : Sample). sample.weight) (drawn list) (timeline lists), total_weight-drawn list, timeline_weight lists, sum_by-append (λ (sample : Sample). sample.weight) list (all_samples lists))

pub timeline_fits : (lists : List ListState) → AreLimited lists → weight_sum (timeline (samples_of lists)) < 2 ^ 64
timeline_fits lists h = omega (arith, timeline_weight (samples_of lists), total_fits (samples_of lists) (lists_small lists h))
