use Rattle.std.specs.Prelude.{ℕ, Bool, ◌&&◌, nat_lt, if◌then◌else◌, Option}
use Rattle.std.specs.Prelude.{List, [], ◌∷◌, ◌++◌, length, take, drop, map, slice_set}
use Rattle.std.specs.List.{slice_index_or, filter_map}
use Rattle.std.specs.Option.{option_map}
use Rattle.stack_core.specs.declared.worlds.Event.{Event}
use Rattle.stack_core.specs.declared.worlds.Event.TheVariants.{Push, Pop}

-- one source: what is still to push, its queue and what was received
pub record Lane (A : Type 0) : Type 0 where
  pub left : List A
  pub queue : List A
  pub received : List A

-- a lane for each source, whose queues hold at most `size` items
pub record Schedule (A : Type 0) : Type 0 where
  pub size : ℕ
  pub lanes : List (Lane A)

-- all is still to push
abbrev pub unpushed : {A : Type 0} → List A → Lane A
unpushed items = record { left = items; queue = []; received = [] }

abbrev pub start : {A : Type 0} → ℕ → List (List A) → Schedule A
start size told = record { size = size; lanes = map unpushed told }

-- the lane of a source, which is empty where there is no such source
abbrev pub lane_at : {A : Type 0} → Schedule A → ℕ → Lane A
lane_at state source = slice_index_or state.lanes source (unpushed [])

abbrev pub can_push : {A : Type 0} → ℕ → Lane A → Bool
can_push size lane = nat_lt 0 (length lane.left) && nat_lt (length lane.queue) size

abbrev pub can_pop : {A : Type 0} → Lane A → Bool
can_pop lane = nat_lt 0 (length lane.queue)

-- the next item moves to the back of the queue
abbrev pub pushed : {A : Type 0} → Lane A → Lane A
pushed lane =
    record { left = drop 1 lane.left; queue = lane.queue ++ take 1 lane.left; received = lane.received }

-- the front of the queue is received
abbrev pub popped : {A : Type 0} → Lane A → Lane A
popped lane =
    record { left = lane.left; queue = drop 1 lane.queue; received = lane.received ++ take 1 lane.queue }

abbrev pub is_possible : {A : Type 0} → Schedule A → Event → Bool
is_possible state (Push source) = can_push state.size (lane_at state source)
is_possible state (Pop source) = can_pop (lane_at state source)

-- the lanes after a change of one
abbrev pub changed_at : {A : Type 0} → ℕ → (Lane A → Lane A) → Schedule A → Schedule A
changed_at source change state =
    record { size = state.size; lanes = slice_set state.lanes source (change (lane_at state source)) }

-- the state after an event that is possible
abbrev pub moved : {A : Type 0} → Event → Schedule A → Schedule A
moved (Push source) state = changed_at source pushed state
moved (Pop source) state = changed_at source popped state

-- one event, which changes nothing where it is not possible
abbrev pub happens : {A : Type 0} → Schedule A → Event → Schedule A
happens state event = if is_possible state event then moved event state else state

-- the events of a schedule, one after another
abbrev pub after_events : {A : Type 0} → Schedule A → List Event → Schedule A
after_events state [] = state
after_events state (event ∷ events) = after_events (happens state event) events

-- a whole schedule over told lists, and one lane after it
abbrev pub after_schedule : {A : Type 0} → ℕ → List (List A) → List Event → Schedule A
after_schedule size told events = after_events (start size told) events

abbrev pub lane_after : {A : Type 0} → ℕ → List (List A) → List Event → ℕ → Lane A
lane_after size told events source = lane_at (after_schedule size told events) source

-- what an event hands out: the front of the queue of a Pop
abbrev pub handed_out : {A : Type 0} → Schedule A → Event → List (ℕ × A)
handed_out state (Push source) = []
handed_out state (Pop source) = map (λ item. (source, item)) (take 1 (lane_at state source).queue)

-- all that the Pops of a schedule hand out, in order, each with its source
abbrev pub all_handed_out : {A : Type 0} → Schedule A → List Event → List (ℕ × A)
all_handed_out state [] = []
all_handed_out state (event ∷ events) = handed_out state event ++ all_handed_out (happens state event) events

-- what h makes of the received items of each source, of those of which it makes something
abbrev pub received_lists : {A B : Type 0} → (A → Option B) → Schedule A → List (List B)
received_lists h state = map (λ lane. filter_map h lane.received) state.lanes

-- the pairs of a source and what h makes of its item, of the items of which it makes something
abbrev pub only : {A B : Type 0} → (A → Option B) → List (ℕ × A) → List (ℕ × B)
only h pairs = filter_map (λ pair. option_map (λ made. (pair.0, made)) (h pair.1)) pairs
