-- What a sink hears of how sources end: checked, not to be believed.
use Rattle.std.specs.Prelude.{◌≡◌, ◌≤◌, ◌++◌, ℕ, List, [], ◌∷◌, Option, None, Some, length, slice_get}
use Rattle.stack_core.specs.Interleaving.{of_source}
use Rattle.ring_collect.specs.Collection.{EndOfSource}
use Rattle.sample_tables.specs.declared.samples.Sample.{Sample}
use Rattle.stack_core.specs.declared.endings.Close.{Close}
use Rattle.stack_core.specs.declared.endings.Close.TheVariants.{Read, NoMemory}
use Rattle.ring_collect.specs.declared.intakes.Intake.{Intake}
use Rattle.ring_collect.specs.declared.intakes.Stage.{Stage}
use Rattle.ring_collect.specs.declared.intakes.Stage.TheVariants.{Taking, Dropping, Unnamed}

-- what no sample changes in a sink: numbers of its own, how many sources' ends it is told, and those that it was told
pub record Kept : Type 0 where
  pub numbers : List ℕ
  pub known : ℕ
  pub heard : List (ℕ × EndOfSource)

-- what no end changes
abbrev pub unheard : Kept → Kept
unheard kept = record kept { heard = [] }

-- what a sink took and heard
pub record Held : Type 0 where
  pub taken : List (ℕ × Sample)
  pub known : ℕ
  pub heard : List (ℕ × EndOfSource)

abbrev pub held : List (ℕ × Sample) → Kept → Held
held taken kept = record { taken = taken; known = kept.known; heard = kept.heard }

-- the end of a source of which so many samples were taken, if this closed it and all its records were taken
abbrev pub ends_by : Stage → Option Close → ℕ → List EndOfSource
ends_by Taking None count = []
ends_by Taking (Some (Read ending)) count = (ending, count) ∷ []
ends_by Taking (Some NoMemory) count = []
ends_by Dropping close count = []
ends_by Unnamed close count = []

-- what the sink heard since the start: of each source that was closed how it was, unless records of it were dropped
pub record HasHeard (start : List (ℕ × EndOfSource)) (intakes : List Intake) (taken : List (ℕ × Sample)) (heard : List (ℕ × EndOfSource)) : Type 0 where
  pub pairs : List (ℕ × EndOfSource)
  pub gained : heard ≡ start ++ pairs
  pub each : (source : ℕ) (intake : Intake) → slice_get intakes source ≡ Some intake
      → of_source source pairs ≡ ends_by intake.stage intake.close (length (of_source source taken))
  pub no_other : (source : ℕ) → length intakes ≤ source → of_source source pairs ≡ []

-- the same where no record was dropped, by what closed the sources
pub record HearsCloses (start : List (ℕ × EndOfSource)) (closes : List (Option Close)) (taken : List (ℕ × Sample)) (heard : List (ℕ × EndOfSource)) : Type 0 where
  pub pairs : List (ℕ × EndOfSource)
  pub gained : heard ≡ start ++ pairs
  pub each : (source : ℕ) (close : Option Close) → slice_get closes source ≡ Some close
      → of_source source pairs ≡ ends_by Taking close (length (of_source source taken))
  pub no_other : (source : ℕ) → length closes ≤ source → of_source source pairs ≡ []
