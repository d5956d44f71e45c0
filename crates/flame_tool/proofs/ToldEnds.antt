-- The ends of lists, as they were told, and what was said of them.
use Rattle.std.proofs.Common.{◌≡◌, ◌≤◌, ◌<◌, ◌≢◌, ◌==◌, ◌+◌, ◌-◌, ◌^◌, ◌∙◌, ◌||◌, ℕ, zero, suc, Bool, true, false, List, [], ◌∷◌, Option, Some, None, All, ap, arith, inl, inr, length, map, min, refl, subst, sym}
use Rattle.std.specs.Prelude.{if◌then◌else◌, slice_get}
use Rattle.std.specs.List.{flat_map}
use Rattle.std.proofs.lemmas.Bool.{cases_eq, cases_lt, ne_eqb, or_parts}
use Rattle.std.proofs.Math.Nat.{min-eq_left, min-eq_right}
use Rattle.std.proofs.lemmas.List.{length-map}
use Rattle.std.proofs.lemmas.List.Folds.{flat_map-map}
use Rattle.std.proofs.lemmas.Option.{get_or_from_slice_get, slice_get_cases, slice_get_within}
use Rattle.stack_core.specs.Interleaving.{count_of, of_source, sources_of}
use Rattle.stack_core.specs.Ledgers.{ListState}
use Rattle.stack_core.specs.declared.endings.SourceEnd.{SourceEnd}
use Rattle.stack_core.specs.declared.endings.SourceEnd.TheVariants as ends
use Rattle.stack_core.proofs.InterleavingLemmas.{length-of_source, of_source_at, of_source_past}
use Rattle.folded_lines.specs.StrictReading.{strict_at}
use Rattle.folded_lines.specs.declared.strictness.StrictKind.TheVariants.{NoSamples}
use Rattle.folded_lines.specs.StrictStreams.{IsTellable, strict_ending_fault}
use Rattle.command_line.specs.declared.plans.Plan.{Plan}
use Rattle.source_views.specs.Messages.{message_of_ending, message_of_failure, message_of_strict_fault, said_of_each}
use Rattle.source_views.specs.declared.failures.Failure.TheVariants.{Unreadable}
use Rattle.source_views.proofs.MessageTexts.{said_of_seen}
use Rattle.ring_collect.specs.Collection.{EndOfSource}
use Rattle.live_lines.specs.Ends.{ToldEnd, has_lost, heard_of_each}
use Rattle.flame_tool.specs.ToldLive.{IsOfSome, IsSaidOfEach, is_stopped, message_of_end, said_at}
use Rattle.flame_tool.specs.checked.LiveSaying.{AreSomeTold, AreTold, IsTellableList, end_of, message_of_counted, message_of_list, said_of_ends, said_of_told, tellable_count}
use Rattle.flame_tool.proofs.EachSaid.{first_or, held_at, said_alike, said_in_order, said_of_pairs}

-- ---- ends, by their sources

-- an end that says nothing
abbrev no_end : ToldEnd
no_end = record { source = 0; ending = ends.Clean 0; count = 1; is_lost = false }

abbrev pub seen_end : ToldEnd → EndOfSource
seen_end end = (end.ending, end.count)

abbrev pub by_source : List ToldEnd → List (ℕ × ToldEnd)
by_source told = map (λ end. (end.source, end)) told

pub seen_of : (source : ℕ) (told : List ToldEnd) → of_source source (heard_of_each told) ≡ map seen_end (of_source source (by_source told))
seen_of source [] = refl
seen_of source (end ∷ told) = elim (cases_eq end.source source) [
  | inl same ↦ of_source_at source end.source (seen_end end) (heard_of_each told) same
      ∙ (ap (λ more. seen_end end ∷ more) (seen_of source told) ∙ sym (ap (map seen_end) (of_source_at source end.source end (by_source told) same)))
  | inr apart ↦ of_source_past source end.source (seen_end end) (heard_of_each told) apart
      ∙ (seen_of source told ∙ sym (ap (map seen_end) (of_source_past source end.source end (by_source told) apart)))
]

as_many_seen : (source : ℕ) (told : List ToldEnd) → length (of_source source (by_source told)) ≡ length (of_source source (heard_of_each told))
as_many_seen source told = sym (length-map (of_source source (by_source told)) seen_end) ∙ sym (ap length (seen_of source told))

-- where they stand, and what stands there
abbrev pub order_of : List ToldEnd → List ℕ
order_of told = sources_of (by_source told)

abbrev pub end_at : List ToldEnd → ℕ → ToldEnd
end_at told source = held_at no_end (by_source told) source

-- whether the output had failed before the end of a source
abbrev pub lost_at : List ToldEnd → ℕ → Bool
lost_at told source = (end_at told source).is_lost

pub often : (source : ℕ) (told : List ToldEnd) → count_of source (order_of told) ≡ length (of_source source (heard_of_each told))
often source told = sym (length-of_source source (by_source told)) ∙ as_many_seen source told

pub seen_held : (xs : List ToldEnd) (end : EndOfSource) → map seen_end xs ≡ end ∷ [] → seen_end (first_or no_end xs) ≡ end
seen_held [] end is = absurd (cc)
seen_held (x ∷ xs) end is = cc

none_held : (xs : List ToldEnd) → map seen_end xs ≡ [] → first_or no_end xs ≡ no_end
none_held [] is = refl
none_held (x ∷ xs) is = absurd (cc)

-- ---- what was said of them

abbrev pub told_message : Plan → ℕ → ToldEnd → List ℕ
told_message plan at end = message_of_counted plan end.is_lost at (end.ending, end.count)

module _ (plan : Plan) (told : List ToldEnd) (few : (source : ℕ) → length (of_source source (heard_of_each told)) ≤ 1) where
  pub said_by_source : said_of_told plan told ≡ flat_map (λ at. told_message plan at (end_at told at)) (order_of told)
  said_by_source =
      sym (flat_map-map (λ (pair : ℕ × ToldEnd). told_message plan pair.0 pair.1) (λ (end : ToldEnd). (end.source, end)) told)
      ∙ said_of_pairs no_end (told_message plan) (by_source told) (λ at. subst (λ n. n ≤ 1) (sym (as_many_seen at told)) (few at))

pub some_said : (plan : Plan) (count : ℕ) (told : List ToldEnd) → AreSomeTold count told → IsOfSome plan count (said_of_told plan told)
some_said plan count told some = record {
  ends = λ at. ((end_at told at).ending, tellable_count (end_at told at).count);
  is_lost = λ at. (end_at told at).is_lost;
  order = order_of told;
  some = record {
    once = λ at. subst (λ n. n ≤ 1) (sym (often at told)) (some.once at);
    no_other = λ at past. often at told ∙ ap length (some.no_other at past);
  };
  is = said_by_source plan told some.once;
}

-- ---- of lists

-- the place of what is wrong is said as it is
told_place : (samples : ℕ) (ending : SourceEnd) → IsTellable samples ending → strict_ending_fault (tellable_count samples) ending ≡ strict_ending_fault samples ending
told_place samples (ends.Clean ignored) tellable = elim (cases_lt samples (2 ^ 64 - 1)) [
  | inl small ↦ let same : min samples (2 ^ 64 - 2) ≡ samples = min-eq_left (omega (arith, small)) in ap (λ n. strict_ending_fault n (ends.Clean ignored)) same
  | inr large ↦ unignored ignored (min samples (2 ^ 64 - 2)) samples (let most : min samples (2 ^ 64 - 2) ≡ 2 ^ 64 - 2 = min-eq_right (omega (arith, large)) in omega (arith, most)) (omega (arith, large)) (none ignored large tellable)
]
  where
    none : (ignored : ℕ) → 2 ^ 64 - 1 ≤ samples → (ignored ≢ 0 → samples + 1 < 2 ^ 64) → ignored ≡ 0
    none zero large tellable = refl
    none (suc more) large tellable = let small = tellable (λ is. omega (arith, is)) in absurd (omega (arith, large, small))

    unignored : (ignored one other : ℕ) → 0 < one → 0 < other → ignored ≡ 0 → strict_ending_fault one (ends.Clean ignored) ≡ strict_ending_fault other (ends.Clean ignored)
    unignored ignored one other some more is =
        let first : (one == 0) ≡ false = ne_eqb one 0 (λ is. omega (arith, some, is)) in
        let second : (other == 0) ≡ false = ne_eqb other 0 (λ is. omega (arith, more, is)) in
        subst (λ ignored. strict_ending_fault one (ends.Clean ignored) ≡ strict_ending_fault other (ends.Clean ignored)) (sym is)
        ((λ i. if first i then Some (strict_at 0 NoSamples) else None) ∙ sym (λ i. if second i then Some (strict_at 0 NoSamples) else None))
told_place samples (ends.Fault fault) tellable = refl
told_place samples (ends.Stopped after) tellable = refl

module _ (plan : Plan) (at : ℕ) where
  by_strictness : (is_strict : Bool) (samples : ℕ) (ending : SourceEnd) → (is_strict ≡ true → IsTellable samples ending)
      → (if is_strict then message_of_strict_fault plan.files at (strict_ending_fault (tellable_count samples) ending) else message_of_ending plan.files at ending)
      ≡ (if is_strict then message_of_strict_fault plan.files at (strict_ending_fault samples ending) else message_of_ending plan.files at ending)
  by_strictness true samples ending tellable = ap (message_of_strict_fault plan.files at) (told_place samples ending (tellable refl))
  by_strictness false samples ending tellable = refl

  -- so an end is said as its list is
  pub said_as_list : (is_lost : Bool) (list : ListState) → IsTellableList plan.is_strict list → message_of_counted plan is_lost at (end_of list) ≡ message_of_end plan is_lost at (end_of list)
  said_as_list is_lost list tellable = ap (λ text. if is_stopped list.ending then (if is_lost then [] else message_of_failure plan.files (Unreadable at)) else text) (by_strictness plan.is_strict (length list.samples) list.ending tellable)

  silent : (is_strict : Bool) → (if is_strict then message_of_strict_fault plan.files at (strict_ending_fault 1 (ends.Clean 0)) else message_of_ending plan.files at (ends.Clean 0)) ≡ []
  silent true = refl
  silent false = refl

  -- what is said at a place, by the list that stands there and by the end that was told of it
  said_by_list : (lists : List ListState) (told : List ToldEnd) → AreTold lists told → All (IsTellableList plan.is_strict) lists → told_message plan at (end_at told at) ≡ said_at (message_of_list plan (lost_at told)) lists at
  said_by_list lists told are tellable = elim (slice_get_cases lists at).1 [
    | inl found ↦
        let list = found.0 in
        let is = found.2 in
        let end = end_at told at in
        let seen : seen_end (end_at told at) ≡ end_of list = seen_held (of_source at (by_source told)) (end_of list) (sym (seen_of at told) ∙ are.each at list is) in
        let can : IsTellableList plan.is_strict list = subst (IsTellableList plan.is_strict) found.3 (tellable at list found.1) in
        ap (λ (end' : EndOfSource). message_of_counted plan end.is_lost at end') seen
        ∙ (said_as_list end.is_lost list can ∙ sym (ap (λ (found : Option ListState). elim found [ None ↦ [] | Some list ↦ message_of_list plan (lost_at told) at list ]) is))
    | inr past ↦
        let none : end_at told at ≡ no_end = none_held (of_source at (by_source told)) (sym (seen_of at told) ∙ are.no_other at past.0) in
        ap (told_message plan at) none ∙ (silent plan.is_strict ∙ sym (ap (λ (found : Option ListState). elim found [ None ↦ [] | Some list ↦ message_of_list plan (lost_at told) at list ]) past.1))
  ]

module _ (plan : Plan) (lists : List ListState) (told : List ToldEnd) (are : AreTold lists told) where
  heard_once : (source : ℕ) → source < length lists → length (of_source source (heard_of_each told)) ≡ 1
  heard_once source below = elim (slice_get_cases lists source).1 [
    | inl found ↦ ap length (are.each source found.0 found.2)
    | inr past ↦ absurd (omega (arith, below, past.0))
  ]

  heard_few : (source : ℕ) → length (of_source source (heard_of_each told)) ≤ 1
  heard_few source = elim (cases_lt source (length lists)) [
    | inl below ↦ let once = heard_once source below in omega (arith, once)
    | inr past ↦ let none = ap length (are.no_other source past) in omega (arith, none)
  ]

  -- what was said of the ends is what there is to say of the lists, in the order in which they ended
  pub lists_said : All (IsTellableList plan.is_strict) lists → IsSaidOfEach (message_of_list plan (lost_at told)) lists (said_of_told plan told)
  lists_said tellable = record {
    order = order_of told;
    each = record {
      once = λ at below. often at told ∙ heard_once at below;
      no_other = λ at past. often at told ∙ ap length (are.no_other at past);
    };
    is = said_by_source plan told heard_few ∙ (λ i. flat_map (λ at. said_by_list plan at lists told are tellable i) (order_of told));
  }

-- where none was lost, none is at any place
unlost_held : (xs : List ToldEnd) → has_lost xs ≡ false → (first_or no_end xs).is_lost ≡ false
unlost_held [] none = refl
unlost_held (end ∷ xs) none = (or_parts end.is_lost (has_lost xs) none).0

unlost_source : (source : ℕ) (told : List ToldEnd) → has_lost told ≡ false → has_lost (of_source source (by_source told)) ≡ false
unlost_source source [] none = refl
unlost_source source (end ∷ told) none =
    let both = or_parts end.is_lost (has_lost told) none in
    let behind = unlost_source source told both.1 in
    elim (cases_eq end.source source) [
      | inl same ↦ ap has_lost (of_source_at source end.source end (by_source told) same) ∙ (λ i. both.0 i || behind i)
      | inr apart ↦ ap has_lost (of_source_past source end.source end (by_source told) apart) ∙ behind
    ]

pub unlost_everywhere : (told : List ToldEnd) → has_lost told ≡ false → lost_at told ≡ (λ _. false)
unlost_everywhere told none = λ i at. unlost_held (of_source at (by_source told)) (unlost_source at told none) i

-- ---- at the end, in order

tellable_said : (plan : Plan) (is_lost : Bool) (lists : List ListState) → All (IsTellableList plan.is_strict) lists → (at : ℕ)
    → said_at (λ at list. message_of_counted plan is_lost at (end_of list)) lists at ≡ said_at (message_of_list plan (λ _. is_lost)) lists at
tellable_said plan is_lost lists tellable at = by (slice_get lists at) refl
  where
    by : (found : Option ListState) → slice_get lists at ≡ found
        → elim found as (λ _. List ℕ) [ None ↦ [] | Some list ↦ message_of_counted plan is_lost at (end_of list) ]
        ≡ elim found as (λ _. List ℕ) [ None ↦ [] | Some list ↦ message_of_list plan (λ _. is_lost) at list ]
    by None is = refl
    by (Some list) is = said_as_list plan at is_lost list (subst (IsTellableList plan.is_strict) (get_or_from_slice_get lists at list list is) (tellable at list (slice_get_within lists at list is)))

pub ends_said : (plan : Plan) (is_lost : Bool) (ends : List EndOfSource) (lists : List ListState) → ends ≡ map end_of lists → All (IsTellableList plan.is_strict) lists
    → IsSaidOfEach (message_of_list plan (λ _. is_lost)) lists (said_of_ends plan is_lost ends)
ends_said plan is_lost ends lists are tellable =
    let say : ℕ → ListState → List ℕ = λ at list. message_of_counted plan is_lost at (end_of list) in
    let text : said_of_ends plan is_lost ends ≡ said_of_each (λ at list. message_of_counted plan is_lost at (end_of list)) 0 lists = ap (said_of_ends plan is_lost) are ∙ said_of_seen (message_of_counted plan is_lost) end_of 0 lists in
    subst (IsSaidOfEach (message_of_list plan (λ _. is_lost)) lists) (sym text)
    (said_alike say (message_of_list plan (λ _. is_lost)) lists lists (said_of_each say 0 lists) refl (tellable_said plan is_lost lists tellable) (said_in_order say lists))
