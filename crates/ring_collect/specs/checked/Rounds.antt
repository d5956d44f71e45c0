-- What the sink gained while the collecting thread looked into the rings: checked, not to be believed.
use Rattle.std.specs.Prelude.{◌≡◌, ◌≢◌, ◌≤◌, ◌++◌, ℕ, List, length, map, Bool, false, true, IfSome, IsSome, Some, slice_get}
use Rattle.stack_core.specs.Interleaving.{AreOf, list_of, sources_of}
use Rattle.sample_tables.specs.declared.samples.Sample.{Sample}
use Rattle.ring_collect.specs.checked.Ends.{HasHeard, Held, Kept, held, unheard}
use Rattle.ring_collect.specs.checked.Intakes.{Tracks}
use Rattle.ring_collect.specs.declared.intakes.Intake.{Intake}
use Rattle.ring_collect.specs.declared.intakes.Look.{Look}
use Rattle.ring_collect.specs.declared.intakes.Look.TheVariants.{Closed}
use Rattle.ring_collect.specs.declared.intakes.Stage.TheVariants.{Dropping}
use Rattle.ring_collect.specs.declared.rounds.Collector.{Collector}

-- the number of a source is its index, its samples are kept or not, and this is what the sink has of it
pub record IsAt (keeps : Bool) (source : ℕ) (intake : Intake) (list : List Sample) : Type 0 where
  pub number : intake.origin.number ≡ source
  pub kept : intake.origin.keeps ≡ keeps
  pub tracks : Tracks intake list

-- what the sink gained since the start: pairs, which have of each source what is tracked of it. Without want of memory nothing
-- is dropped for its sake, and the order has the sources of the pairs, if samples are kept
pub record HasGained (keeps : Bool) (start : Held) (intakes : List Intake) (now : Held) (order : List ℕ) (refused : Bool) : Type 0 where
  pub lists : List (List Sample)
  pub pairs : List (ℕ × Sample)
  pub all_listed : length lists ≡ length intakes
  pub gained : now.taken ≡ start.taken ++ pairs
  pub of_lists : AreOf pairs lists
  pub ordered : refused ≡ false → keeps ≡ true → order ≡ sources_of pairs
  pub each : (source : ℕ) (intake : Intake) → slice_get intakes source ≡ Some intake → IsAt keeps source intake (list_of lists source)
  pub going : refused ≡ false → (source : ℕ) (intake : Intake) → slice_get intakes source ≡ Some intake → intake.stage ≢ Dropping
  pub heard : length intakes ≤ now.known → HasHeard start.heard intakes now.taken now.heard

-- the collecting thread goes on: what the sink gained since any start is more by what it took, and the threads are the same
pub record GoesOn {R G : Type 0} (old new : Collector R G) (taken taken' : List (ℕ × Sample)) (kept kept' : Kept) : Type 0 where
  pub handles : map (λ running. running.handle) new.sources.items ≡ map (λ running. running.handle) old.sources.items
  pub gained : (keeps : Bool) (start : Held) → HasGained keeps start (map (λ running. running.intake) old.sources.items) (held taken kept) old.order.items old.refused
      → HasGained keeps start (map (λ running. running.intake) new.sources.items) (held taken' kept') new.order.items new.refused
  pub refused : new.refused ≡ false → old.refused ≡ false
  pub setting : unheard kept' ≡ unheard kept

-- where a look at the ring of a source says that it is closed, it was so before, and the sources are the same
abbrev pub WasClosed : {R G : Type 0} → ℕ → Collector R G → Collector R G → Look → Type 0
WasClosed source old new look = look ≡ Closed → (new.sources.items ≡ old.sources.items) × IfSome (slice_get old.sources.items source) (λ running. IsSome running.intake.close)
