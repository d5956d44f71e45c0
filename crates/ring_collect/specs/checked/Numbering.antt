-- What a reader of rows that numbers a reader's samples has told, and still has to give: checked, not to be believed.
use Rattle.std.specs.Prelude.{List, ℕ, [], ◌∷◌, ◌++◌, Option, None, Some}
use Rattle.stack_core.specs.Reading.{Rest}
use Rattle.sample_tables.specs.Rows.{ToldRows}
use Rattle.sample_tables.specs.declared.samples.Sample.{Sample}
use Rattle.ring_collect.specs.declared.numbering.ToldStacks.{ToldStacks, Nothing, More'}

-- the stacks that were told, in order
abbrev pub stacks_of : ToldStacks → List (List ℕ)
stacks_of Nothing = []
stacks_of (More' _ before last) = stacks_of before ++ last.value.items ∷ []

-- what was told: these names, and these stacks
abbrev pub told_of : List (List ℕ) → ToldStacks → ToldRows
told_of names stacks = record { names = names; stacks = stacks_of stacks }

-- what there is to give, where a sample waits before it
abbrev pub with_waiting : Option Sample → Rest → Rest
with_waiting None rest = rest
with_waiting (Some sample) rest = record rest { samples = sample ∷ rest.samples }
