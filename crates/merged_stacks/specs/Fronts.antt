-- Lists whose samples come one after another.
use Rattle.std.specs.Prelude.{ℕ, List, [], ◌∷◌, take}
use Rattle.sample_tables.specs.declared.samples.Sample.{Sample}
use Rattle.merged_stacks.specs.RankedStacks.{Ranking}

-- each list's first samples, as many as are counted of it
abbrev pub fronts : List (List Sample) → List ℕ → List (List Sample)
fronts [] counts = []
fronts (samples ∷ lists) [] = []
fronts (samples ∷ lists) (count ∷ counts) = take count samples ∷ fronts lists counts

-- lists, how many samples of each came, and the stacks that were merged last
pub record GrowingState : Type 0 where
  pub lists : List (List Sample)
  pub counts : List ℕ
  pub merged : Ranking
