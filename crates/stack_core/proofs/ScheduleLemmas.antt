-- What every schedule keeps.
use Rattle.std.proofs.Common.{◌≡◌, ℕ, ◌+◌, ◌<◌, ◌≤◌, zero, suc, true, List, [], ◌∷◌, ◌++◌, length, take, drop, map, refl, sym, ◌∙◌, ap, subst, arith, nat_lt, append_assoc, length-append, take-append-drop, inl, inr}
use Rattle.std.specs.Prelude.{Option, Some, None, Contains}
use Rattle.std.specs.List.{slice_index_or, slice_set, filter_map, cons_option}
use Rattle.std.specs.Option.{option_map}
use Rattle.std.proofs.lemmas.Bool.{cases_eq, cases_lt, cond_both, and_parts, ltb-true, ltb-false}
use Rattle.std.proofs.lemmas.List.{append-nil, get_or-set_same, get_or-set_other, set_past, get_or_past, nil_from_length}
use Rattle.std.proofs.lemmas.List.Elements.{filter_map-append}
use Rattle.stack_core.specs.Reading.{Rest}
use Rattle.stack_core.specs.Told.{IsToldList}
use Rattle.stack_core.specs.declared.endings.Close.{Close}
use Rattle.stack_core.specs.declared.endings.Item.{Item}
use Rattle.stack_core.specs.declared.endings.Item.TheVariants as item
use Rattle.stack_core.specs.declared.worlds.Event.{Event}
use Rattle.stack_core.specs.declared.worlds.Event.TheVariants.{Push, Pop}
use Rattle.stack_core.specs.Prefixes.{IsPrefixOf}
use Rattle.stack_core.specs.Schedule.{Lane, Schedule, unpushed, start, lane_at, pushed, popped, is_possible, changed_at, moved, happens, after_events, handed_out, all_handed_out, only, received_lists}
use Rattle.stack_core.specs.Interleaving.{of_source, AreOf, list_of}
use Rattle.stack_core.proofs.ToldLemmas.{told_list_whole}
use Rattle.stack_core.proofs.InterleavingLemmas.{of_source_at, of_source_past, of_source-append}

-- what is made of each element, also past the end
pub slice_index_or-map : {A B : Type 0} (f : A → B) (xs : List A) (i : ℕ) (d : A) → slice_index_or (map f xs) i (f d) ≡ f (slice_index_or xs i d)
slice_index_or-map f [] i d = refl
slice_index_or-map f (x ∷ xs) zero d = refl
slice_index_or-map f (x ∷ xs) (suc i) d = slice_index_or-map f xs i d

-- a lane after a change of one is this one changed, or as before
pub lane_at-changed : {A : Type 0} (source : ℕ) (change : Lane A → Lane A) (state : Schedule A) (at : ℕ) (P : Lane A → Type 0)
    → (source ≡ at → P (change (lane_at state source))) → P (lane_at state at) → P (lane_at (changed_at source change state) at)
lane_at-changed source change state at P changed kept =
    elim (cases_eq source at) [
      | inl same ↦
          elim (cases_lt source (length state.lanes)) [
            | inl within ↦
                subst P (sym (get_or-set_same state.lanes source (change (lane_at state source)) (unpushed []) within) ∙ ap (λ k. slice_index_or (slice_set state.lanes source (change (lane_at state source))) k (unpushed [])) same) (changed same)
            | inr past ↦ subst P (sym (ap (λ lanes. slice_index_or lanes at (unpushed [])) (set_past state.lanes source (change (lane_at state source)) past))) kept
          ]
      | inr apart ↦ subst P (sym (get_or-set_other state.lanes source at (change (lane_at state source)) (unpushed []) (λ is. apart (sym is)))) kept
    ]

-- all items of a lane, in the order in which they are received
abbrev pub all_of : {A : Type 0} → Lane A → List A
all_of lane = lane.received ++ lane.queue ++ lane.left

pub all_of-pushed : {A : Type 0} (lane : Lane A) → all_of (pushed lane) ≡ all_of lane
all_of-pushed lane =
    ap (λ front. front ++ drop 1 lane.left) (sym (append_assoc lane.received lane.queue (take 1 lane.left)))
    ∙ (append_assoc (lane.received ++ lane.queue) (take 1 lane.left) (drop 1 lane.left)
    ∙ ap (λ left. lane.received ++ lane.queue ++ left) (take-append-drop 1 lane.left))

pub all_of-popped : {A : Type 0} (lane : Lane A) → all_of (popped lane) ≡ all_of lane
all_of-popped lane =
    ap (λ front. front ++ lane.left) (append_assoc lane.received (take 1 lane.queue) (drop 1 lane.queue) ∙ ap (λ queue. lane.received ++ queue) (take-append-drop 1 lane.queue))

pub all_of-moved : {A : Type 0} (event : Event) (state : Schedule A) (at : ℕ) → all_of (lane_at (moved event state) at) ≡ all_of (lane_at state at)
all_of-moved (Push source) state at =
    lane_at-changed source pushed state at (λ lane. all_of lane ≡ all_of (lane_at state at)) (λ same. all_of-pushed (lane_at state source) ∙ ap (λ k. all_of (lane_at state k)) same) refl
all_of-moved (Pop source) state at =
    lane_at-changed source popped state at (λ lane. all_of lane ≡ all_of (lane_at state at)) (λ same. all_of-popped (lane_at state source) ∙ ap (λ k. all_of (lane_at state k)) same) refl

pub all_of-happens : {A : Type 0} (state : Schedule A) (event : Event) (at : ℕ) → all_of (lane_at (happens state event) at) ≡ all_of (lane_at state at)
all_of-happens state event at = cond_both (is_possible state event) (moved event state) state (λ s. all_of (lane_at s at) ≡ all_of (lane_at state at)) (λ _. all_of-moved event state at) (λ _. refl)

pub all_of-after_events : {A : Type 0} (state : Schedule A) (events : List Event) (at : ℕ) → all_of (lane_at (after_events state events) at) ≡ all_of (lane_at state at)
all_of-after_events state [] at = refl
all_of-after_events state (event ∷ events) at = all_of-after_events (happens state event) events at ∙ all_of-happens state event at

pub lane_at-start : {A : Type 0} (size : ℕ) (told : List (List A)) (at : ℕ) → lane_at (start size told) at ≡ unpushed (list_of told at)
lane_at-start size told at = slice_index_or-map unpushed told at []

-- no item is lost, or comes twice, or in another order
pub none_lost : {A : Type 0} (size : ℕ) (told : List (List A)) (events : List Event) (at : ℕ) → all_of (lane_at (after_events (start size told) events) at) ≡ list_of told at
none_lost size told events at = all_of-after_events (start size told) events at ∙ ap all_of (lane_at-start size told at)

pub received_first : {A : Type 0} (size : ℕ) (told : List (List A)) (events : List Event) (at : ℕ) → IsPrefixOf (lane_at (after_events (start size told) events) at).received (list_of told at)
received_first size told events at =
    let lane = lane_at (after_events (start size told) events) at in
    (lane.queue ++ lane.left, sym (append_assoc lane.received lane.queue lane.left) ∙ none_lost size told events at)

-- no queue holds more than its size
pub size-moved : {A : Type 0} (event : Event) (state : Schedule A) → (moved event state).size ≡ state.size
size-moved (Push source) state = refl
size-moved (Pop source) state = refl

pub size-happens : {A : Type 0} (state : Schedule A) (event : Event) → (happens state event).size ≡ state.size
size-happens state event = cond_both (is_possible state event) (moved event state) state (λ s. s.size ≡ state.size) (λ _. size-moved event state) (λ _. refl)

pub length-take_one : {A : Type 0} (xs : List A) → length (take 1 xs) ≤ 1
length-take_one [] = omega arith
length-take_one (x ∷ xs) = omega arith

pub length-drop_one : {A : Type 0} (xs : List A) → length (drop 1 xs) ≤ length xs
length-drop_one [] = omega arith
length-drop_one (x ∷ xs) = omega arith

pub bounded-moved : {A : Type 0} (event : Event) (state : Schedule A) (n : ℕ) → state.size ≤ n → ((at : ℕ) → length (lane_at state at).queue ≤ n) → is_possible state event ≡ true → (at : ℕ) → length (lane_at (moved event state) at).queue ≤ n
bounded-moved (Push source) state n size bounded can at =
    let lane = lane_at state source in
    let room : length lane.queue < state.size = ltb-true (length lane.queue) state.size (and_parts (nat_lt 0 (length lane.left)) (nat_lt (length lane.queue) state.size) can).1 in
    let one : length (take 1 lane.left) ≤ 1 = length-take_one lane.left in
    let more : length (lane.queue ++ take 1 lane.left) ≡ length lane.queue + length (take 1 lane.left) = length-append lane.queue (take 1 lane.left) in
    lane_at-changed source pushed state at (λ l. length l.queue ≤ n) (λ _. omega arith) (bounded at)
bounded-moved (Pop source) state n size bounded can at =
    let lane = lane_at state source in
    let fewer : length (drop 1 lane.queue) ≤ length lane.queue = length-drop_one lane.queue in
    let before : length lane.queue ≤ n = bounded source in
    lane_at-changed source popped state at (λ l. length l.queue ≤ n) (λ _. omega arith) (bounded at)

pub bounded-after_events : {A : Type 0} (state : Schedule A) (events : List Event) (n : ℕ) → state.size ≤ n → ((at : ℕ) → length (lane_at state at).queue ≤ n) → (at : ℕ) → length (lane_at (after_events state events) at).queue ≤ n
bounded-after_events state [] n size bounded at = bounded at
bounded-after_events state (event ∷ events) n size bounded at =
    let same : (happens state event).size ≡ state.size = size-happens state event in
    bounded-after_events (happens state event) events n (omega arith)
    (λ k. cond_both (is_possible state event) (moved event state) state (λ s. length (lane_at s k).queue ≤ n) (λ can. bounded-moved event state n size bounded can k) (λ _. bounded k)) at

pub queues_bounded : {A : Type 0} (size : ℕ) (told : List (List A)) (events : List Event) (at : ℕ) → length (lane_at (after_events (start size told) events) at).queue ≤ size
queues_bounded {A} size told events at =
    let none : (k : ℕ) → length (lane_at (start size told) k).queue ≤ size = λ k. let empty : length (lane_at (start size told) k).queue ≡ 0 = ap (λ (lane : Lane A). length lane.queue) (lane_at-start size told k) in omega arith in
    bounded-after_events (start size told) events size (omega arith) none at

-- what is handed out of a source is what its lane receives
pub of_source-cons_option : {B : Type 0} (at source : ℕ) (made : Option B) (pairs : List (ℕ × B)) → source ≡ at → of_source at (cons_option (option_map (λ x. (source, x)) made) pairs) ≡ cons_option made (of_source at pairs)
of_source-cons_option at source None pairs same = refl
of_source-cons_option at source (Some x) pairs same = of_source_at at source x pairs same

pub of_source-cons_option_past : {B : Type 0} (at source : ℕ) (made : Option B) (pairs : List (ℕ × B)) → (source ≡ at → ⊥) → of_source at (cons_option (option_map (λ x. (source, x)) made) pairs) ≡ of_source at pairs
of_source-cons_option_past at source None pairs apart = refl
of_source-cons_option_past at source (Some x) pairs apart = of_source_past at source x pairs apart

pub of_source-only : {A B : Type 0} (h : A → Option B) (at source : ℕ) (xs : List A) → source ≡ at → of_source at (only h (map (λ x. (source, x)) xs)) ≡ filter_map h xs
of_source-only h at source [] same = refl
of_source-only h at source (x ∷ xs) same = of_source-cons_option at source (h x) (only h (map (λ y. (source, y)) xs)) same ∙ ap (cons_option (h x)) (of_source-only h at source xs same)

pub of_source-only_past : {A B : Type 0} (h : A → Option B) (at source : ℕ) (xs : List A) → (source ≡ at → ⊥) → of_source at (only h (map (λ x. (source, x)) xs)) ≡ []
of_source-only_past h at source [] apart = refl
of_source-only_past h at source (x ∷ xs) apart = of_source-cons_option_past at source (h x) (only h (map (λ y. (source, y)) xs)) apart ∙ of_source-only_past h at source xs apart

pub received-push : {A : Type 0} (state : Schedule A) (source at : ℕ) → (lane_at (happens state (Push source)) at).received ≡ (lane_at state at).received
received-push state source at =
    cond_both (is_possible state (Push source)) (moved (Push source) state) state (λ s. (lane_at s at).received ≡ (lane_at state at).received)
    (λ _. lane_at-changed source pushed state at (λ lane. lane.received ≡ (lane_at state at).received) (λ same. ap (λ k. (lane_at state k).received) same) refl) (λ _. refl)

pub lane_at-pop_past : {A : Type 0} (state : Schedule A) (source at : ℕ) → (source ≡ at → ⊥) → lane_at (happens state (Pop source)) at ≡ lane_at state at
lane_at-pop_past state source at apart =
    cond_both (is_possible state (Pop source)) (moved (Pop source) state) state (λ s. lane_at s at ≡ lane_at state at)
    (λ _. lane_at-changed source popped state at (λ lane. lane ≡ lane_at state at) (λ same. absurd (apart same)) refl) (λ _. refl)

pub received-pop : {A : Type 0} (state : Schedule A) (source : ℕ) → (lane_at (happens state (Pop source)) source).received ≡ (lane_at state source).received ++ take 1 (lane_at state source).queue
received-pop {A} state source =
    let lane = lane_at state source in
    cond_both (is_possible state (Pop source)) (moved (Pop source) state) state (λ s. (lane_at s source).received ≡ lane.received ++ take 1 lane.queue)
    (λ can.
    let some : 0 < length lane.queue = ltb-true 0 (length lane.queue) can in
    elim (cases_lt source (length state.lanes)) [
      | inl within ↦ ap (λ (l : Lane A). l.received) (get_or-set_same state.lanes source (popped lane) (unpushed []) within)
      | inr past ↦ let none : length lane.queue ≡ 0 = ap (λ (l : Lane A). length l.queue) (get_or_past state.lanes source (unpushed []) past) in absurd (omega arith)
    ])
    (λ cannot.
    let none : length lane.queue ≤ 0 = ltb-false 0 (length lane.queue) cannot in
    let empty : lane.queue ≡ [] = nil_from_length lane.queue (omega arith) in
    sym (ap (λ queue. lane.received ++ take 1 queue) empty ∙ append-nil lane.received))

-- one event: the lane receives what is handed out of its source
pub handed_out-happens : {A B : Type 0} (h : A → Option B) (state : Schedule A) (event : Event) (at : ℕ)
    → filter_map h (lane_at state at).received ++ of_source at (only h (handed_out state event)) ≡ filter_map h (lane_at (happens state event) at).received
handed_out-happens h state (Push source) at = append-nil (filter_map h (lane_at state at).received) ∙ ap (filter_map h) (sym (received-push state source at))
handed_out-happens h state (Pop source) at =
    let lane = lane_at state source in
    let out = only h (handed_out state (Pop source)) in
    elim (cases_eq source at) [
      | inl same ↦
          let here : filter_map h lane.received ++ of_source source out ≡ filter_map h (lane_at (happens state (Pop source)) source).received =
          ap (λ got. filter_map h lane.received ++ got) (of_source-only h source source (take 1 lane.queue) refl)
          ∙ (sym (filter_map-append h lane.received (take 1 lane.queue)) ∙ ap (filter_map h) (sym (received-pop state source))) in
          subst (λ s. filter_map h (lane_at state s).received ++ of_source s out ≡ filter_map h (lane_at (happens state (Pop source)) s).received) same here
      | inr apart ↦
          ap (λ got. filter_map h (lane_at state at).received ++ got) (of_source-only_past h at source (take 1 lane.queue) apart)
          ∙ (append-nil (filter_map h (lane_at state at).received) ∙ ap (λ l. filter_map h l.received) (sym (lane_at-pop_past state source at apart)))
    ]

-- a whole schedule
pub handed_out-after_events : {A B : Type 0} (h : A → Option B) (state : Schedule A) (events : List Event) (at : ℕ)
    → filter_map h (lane_at state at).received ++ of_source at (only h (all_handed_out state events)) ≡ filter_map h (lane_at (after_events state events) at).received
handed_out-after_events h state [] at = append-nil (filter_map h (lane_at state at).received)
handed_out-after_events h state (event ∷ events) at =
    let first = handed_out state event in
    let rest = all_handed_out (happens state event) events in
    ap (λ got. filter_map h (lane_at state at).received ++ of_source at got) (filter_map-append (λ pair. option_map (λ made. (pair.0, made)) (h pair.1)) first rest)
    ∙ (ap (λ got. filter_map h (lane_at state at).received ++ got) (of_source-append at (only h first) (only h rest))
    ∙ (sym (append_assoc (filter_map h (lane_at state at).received) (of_source at (only h first)) (of_source at (only h rest)))
    ∙ (ap (λ front. front ++ of_source at (only h rest)) (handed_out-happens h state event at)
    ∙ handed_out-after_events h (happens state event) events at)))

-- what the Pops hand out is, source by source, what was received
pub handed_out_by_source : {A B : Type 0} (h : A → Option B) (size : ℕ) (told : List (List A)) (events : List Event)
    → AreOf (only h (all_handed_out (start size told) events)) (received_lists h (after_events (start size told) events))
handed_out_by_source {A} {B} h size told events = record {
  by_source = λ at.
      let all = handed_out-after_events h (start size told) events at in
      let none : filter_map h (lane_at (start size told) at).received ≡ [] = ap (λ (lane : Lane A). filter_map h lane.received) (lane_at-start size told at) in
      let given : of_source at (only h (all_handed_out (start size told) events)) ≡ filter_map h (lane_at (after_events (start size told) events) at).received =
      ap (λ front. front ++ of_source at (only h (all_handed_out (start size told) events))) (sym none) ∙ all in
      given ∙ sym (slice_index_or-map (λ (lane : Lane A). filter_map h lane.received) (after_events (start size told) events).lanes at (unpushed []));
}

-- where a told list's close was received, the whole list was
pub received_close_last : (size : ℕ) (told : List (List Item)) (events : List Event) (source : ℕ) (rest : Rest) (close : Close) → IsToldList rest (list_of told source)
    → Contains (lane_at (after_events (start size told) events) source).received (item.Close close)
    → ((lane_at (after_events (start size told) events) source).received ≡ list_of told source) × ((lane_at (after_events (start size told) events) source).queue ≡ [])
received_close_last size told events source rest close is has =
    let lane = lane_at (after_events (start size told) events) source in
    let both = told_list_whole rest (list_of told source) lane.received (lane.queue ++ lane.left) close is (sym (append_assoc lane.received lane.queue lane.left) ∙ none_lost size told events source) has in
    let none : length lane.queue + length lane.left ≡ 0 = sym (length-append lane.queue lane.left) ∙ ap length both.1 in
    (both.0, nil_from_length lane.queue (omega arith))

pub after_events-append : {A : Type 0} (state : Schedule A) (events more : List Event) → after_events state (events ++ more) ≡ after_events (after_events state events) more
after_events-append state [] more = refl
after_events-append state (event ∷ events) more = after_events-append (happens state event) events more

pub filter_map-Some : {A : Type 0} (xs : List A) → filter_map (λ (x : A). Some x) xs ≡ xs
filter_map-Some [] = refl
filter_map-Some (x ∷ xs) = ap (λ rest. x ∷ rest) (filter_map-Some xs)

-- what was received stays, and more comes behind it
pub received_grows : {A : Type 0} (size : ℕ) (told : List (List A)) (events more : List Event) (at : ℕ)
    → IsPrefixOf (lane_at (after_events (start size told) events) at).received (lane_at (after_events (start size told) (events ++ more)) at).received
received_grows {A} size told events more at =
    let now = after_events (start size told) events in
    let behind = of_source at (only (λ (x : A). Some x) (all_handed_out now more)) in
    let grown : (lane_at now at).received ++ behind ≡ (lane_at (after_events now more) at).received =
    ap (λ front. front ++ behind) (sym (filter_map-Some (lane_at now at).received))
    ∙ (handed_out-after_events (λ (x : A). Some x) now more at ∙ filter_map-Some (lane_at (after_events now more) at).received) in
    (behind, grown ∙ ap (λ (state : Schedule A). (lane_at state at).received) (sym (after_events-append (start size told) events more)))
