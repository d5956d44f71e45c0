-- The lists of a run, and their limits.
use Rattle.std.specs.Prelude.{◌≤◌, ℕ, List, length, All}
use Rattle.stack_core.specs.Interleaving.{IsInterleaving}
use Rattle.stack_core.specs.Ledgers.{ListState}
use Rattle.stack_core.specs.Reading.{IsSourceLimited}
use Rattle.merged_stacks.specs.Timeline.{samples_of}

-- the lists of a run, and the order in which their samples came
pub record ListsState : Type 0 where
  pub lists : List ListState
  pub order : List ℕ

-- at most 64 lists, each within the limits of a source
pub record AreLimited (lists : List ListState) : Type 0 where
  pub few : length lists ≤ 64
  pub each : All (λ list. IsSourceLimited list.samples) lists

-- the order is one of the lists, and they are within the limits
pub record AreOrdered (lists : List ListState) (order : List ℕ) : Type 0 where
  pub limits : AreLimited lists
  pub ordered : IsInterleaving order (samples_of lists)
