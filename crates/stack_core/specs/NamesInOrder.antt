-- The names of samples, each once, in the order in which they first appear.
use Rattle.std.specs.Prelude.{ℕ, List, [], ◌∷◌, ◌++◌, if◌then◌else◌}
use Rattle.std.specs.List.{list_any}
use Rattle.std.specs.Str.{bytes_eq}
use Rattle.sample_tables.specs.declared.samples.Sample.{Sample}

-- these names, and behind them one: a known name changes nothing, a new one goes last
abbrev pub with_name : List (List ℕ) → List ℕ → List (List ℕ)
with_name names name = if list_any (bytes_eq name) names then names else names ++ name ∷ []

-- these names, and behind them those of a stack, root first
abbrev pub with_stack : List (List ℕ) → List (List ℕ) → List (List ℕ)
with_stack names [] = names
with_stack names (name ∷ stack) = with_stack (with_name names name) stack

-- these names, and behind them those of the samples' stacks
abbrev pub with_stacks : List (List ℕ) → List Sample → List (List ℕ)
with_stacks names [] = names
with_stacks names (sample ∷ samples) = with_stacks (with_stack names sample.stack) samples

-- the names of samples, each once, in the order in which they first appear
abbrev pub names_in_order : List Sample → List (List ℕ)
names_in_order samples = with_stacks [] samples
