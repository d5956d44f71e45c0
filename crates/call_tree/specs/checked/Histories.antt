-- The stacks of a history, as its callers see them.
use Rattle.std.specs.Prelude.{ℕ, List, [], ◌∷◌, ◌++◌}
use Rattle.call_tree.specs.declared.histories.ToldStacks.{ToldStacks, Nothing, More'}

abbrev pub stacks_of : ToldStacks → List (List ℕ)
stacks_of Nothing = []
stacks_of (More' _ before last) = stacks_of before ++ last.value ∷ []
