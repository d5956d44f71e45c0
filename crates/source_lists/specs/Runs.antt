-- What is read of sources, and which gate is asked.
use Rattle.std.specs.Prelude.{◌≢◌, ℕ, List}
use Rattle.std.specs.Arc.{arc_value}
use Rattle.stack_core.specs.Interleaving.{IsInterleaving}
use Rattle.stack_core.specs.Ledgers.{ListState}
use Rattle.stack_core.specs.Reading.{Rest}
use Rattle.stack_core.specs.declared.endings.SourceEnd.TheVariants.{Stopped}
use Rattle.merged_stacks.specs.Timeline.{samples_of}
use Rattle.ring_collect.specs.Collection.{AreWhole, Collects}
use Rattle.source_lists.specs.declared.gating.Gating.{Gating}
use Rattle.source_lists.specs.declared.gating.Gating.TheVariants.{Open, Asked}

-- where a run may stop: where its gate may, and nowhere if it has none
abbrev pub MayStop : {G : Type 0} → (G → ℕ → ℕ → Type 0) → Gating G → ℕ → ℕ → Type 0
MayStop may_stop Open source index = ⊥
MayStop may_stop (Asked gate) source index = may_stop (arc_value gate) source index

-- where it may go: where its gate may, and everywhere if it has none
abbrev pub MayGo : {G : Type 0} → (G → ℕ → ℕ → Type 0) → Gating G → ℕ → ℕ → Type 0
MayGo may_go Open source index = Unit {0}
MayGo may_go (Asked gate) source index = may_go (arc_value gate) source index

-- the run asks no gate
abbrev pub IsOpen : {G : Type 0} → Gating G → Type 0
IsOpen Open = Unit {0}
IsOpen (Asked gate) = ⊥

-- each list is the samples of its source: all of them, or the first ones where the gate stopped it, so all under a gate that never stops.
-- The order is one of the lists
pub record ReadsLists (may_stop may_go : ℕ → ℕ → Type 0) (rests : List Rest) (lists : List ListState) (order : List ℕ) : Type 0 where
  pub collected : Collects may_stop may_go rests lists
  pub whole : ((source index : ℕ) → may_stop source index → ⊥) → AreWhole rests lists
  pub ordered : IsInterleaving order (samples_of lists)

-- the list doesn't end before its source does
abbrev pub IsReadOut : ListState → Type 0
IsReadOut list = (after : ℕ) → list.ending ≢ Stopped after
