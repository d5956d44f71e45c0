use Rattle.std.proofs.Common.{◌≡◌, ◌<◌, ℕ, Bool, true, false, if◌then◌else◌, List, [], length, refl, ap, ◌∙◌, arith}
use Rattle.std.specs.List.{slice_index_or, slice_set}
use Rattle.std.proofs.lemmas.List.{get_or_read, set-get_or}
use Rattle.stack_core.specs.declared.endings.Item.{Item}
use Rattle.stack_core.specs.Schedule.{Lane, Schedule, unpushed, can_push, can_pop, pushed, popped}
use Rattle.stack_core.proofs.worlds.World.step.Goals as goal

abbrev state_of : ℕ → List (Lane Item) → Schedule Item
state_of size lanes = record { size = size; lanes = lanes }

-- a lane that may change, and the state with it
changes-one : (size : ℕ) (lanes : List (Lane Item)) (source : ℕ) (can : Lane Item → Bool) (change : Lane Item → Lane Item) (lane new : Lane Item)
    → lane ≡ slice_index_or lanes source (unpushed []) → new ≡ (if can lane then change lane else lane)
    → state_of size (slice_set lanes source new)
    ≡ (if can (slice_index_or lanes source (unpushed [])) then state_of size (slice_set lanes source (change (slice_index_or lanes source (unpushed [])))) else state_of size lanes)
changes-one size lanes source can change lane new same is =
    let whole = is ∙ ap (λ (l : Lane Item). if can l then change l else l) same in
    ap (λ (l : Lane Item). state_of size (slice_set lanes source l)) whole ∙ by_case (can (slice_index_or lanes source (unpushed [])))
  where
    by_case : (b : Bool) → state_of size (slice_set lanes source (if b then change (slice_index_or lanes source (unpushed [])) else slice_index_or lanes source (unpushed [])))
        ≡ (if b then state_of size (slice_set lanes source (change (slice_index_or lanes source (unpushed [])))) else state_of size lanes)
    by_case true = refl
    by_case false = ap (state_of size) (set-get_or lanes source (unpushed []))

pub returns-then-source-len-clause-possible : goal.returns-then-source-len-clause-possible
returns-then-source-len-clause-possible c =
    let lanes = c.self.inside.lanes in
    let within : c.in-Push.source < length lanes.items = omega (arith, lanes.ok.0) in
    let lane = get_or_read lanes.items c.in-Push.source c.index_mut.result.now within c.index_mut.ensures.value (unpushed []) in
    rw (c.in-Push.is, ← c.self.view_is) (c.push.ensures.possible ∙ ap (can_push c.self.inside.size) lane)

pub returns-then-source-len-clause-state : goal.returns-then-source-len-clause-state
returns-then-source-len-clause-state c =
    let lanes = c.self.inside.lanes in
    let size = c.self.inside.size in
    let within : c.in-Push.source < length lanes.items = omega (arith, lanes.ok.0) in
    let lane = get_or_read lanes.items c.in-Push.source c.index_mut.result.now within c.index_mut.ensures.value (unpushed []) in
    rw (c.in-Push.is, ← c.self.view_is) (changes-one size lanes.items c.in-Push.source (can_push size) pushed c.index_mut.result.now c.push.new.self lane c.push.ensures.state)

pub returns-then-source-len-2-clause-possible : goal.returns-then-source-len-2-clause-possible
returns-then-source-len-2-clause-possible c =
    let lanes = c.self.inside.lanes in
    let within : c.in-Pop.source < length lanes.items = omega (arith, lanes.ok.0) in
    let lane = get_or_read lanes.items c.in-Pop.source c.index_mut-then-source-len-2.result.now within c.index_mut-then-source-len-2.ensures.value (unpushed []) in
    rw (c.in-Pop.is, ← c.self.view_is) (c.pop.ensures.possible ∙ ap can_pop lane)

pub returns-then-source-len-2-clause-state : goal.returns-then-source-len-2-clause-state
returns-then-source-len-2-clause-state c =
    let lanes = c.self.inside.lanes in
    let within : c.in-Pop.source < length lanes.items = omega (arith, lanes.ok.0) in
    let lane = get_or_read lanes.items c.in-Pop.source c.index_mut-then-source-len-2.result.now within c.index_mut-then-source-len-2.ensures.value (unpushed []) in
    rw (c.in-Pop.is, ← c.self.view_is)
    (changes-one c.self.inside.size lanes.items c.in-Pop.source can_pop popped c.index_mut-then-source-len-2.result.now c.pop.new.self lane c.pop.ensures.state)
