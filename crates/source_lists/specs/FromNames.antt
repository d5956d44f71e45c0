-- Samples whose stacks begin at a frame of a name.
use Rattle.std.specs.Prelude.{ℕ, Bool, List, [], ◌∷◌, Option, None, Some, if◌then◌else◌, map}
use Rattle.std.specs.List.{filter, list_any}
use Rattle.std.specs.Str.{bytes_eq}
use Rattle.stack_core.specs.Reading.{Rest}
use Rattle.sample_tables.specs.declared.samples.Sample.{Sample}

-- a frame has this whole name
abbrev pub has_name : List ℕ → List (List ℕ) → Bool
has_name name stack = list_any (λ frame. bytes_eq frame name) stack

-- the stack, root first, from its first frame of this whole name on; nothing where it has none
abbrev pub stack_from : List ℕ → List (List ℕ) → List (List ℕ)
stack_from name [] = []
stack_from name (frame ∷ stack) = if bytes_eq frame name then frame ∷ stack else stack_from name stack

abbrev pub sample_from : List ℕ → Sample → Sample
sample_from name sample = record { stack = stack_from name sample.stack; weight = sample.weight }

-- the samples that have such a frame, each from there on
abbrev pub samples_from : List ℕ → List Sample → List Sample
samples_from name samples = map (sample_from name) (filter (λ sample. has_name name sample.stack) samples)

abbrev pub rest_from : List ℕ → Rest → Rest
rest_from name rest = record { samples = samples_from name rest.samples; ending = rest.ending }

-- what is shown of sources: all of it where no name is given
abbrev pub rests_from : Option (List ℕ) → List Rest → List Rest
rests_from None rests = rests
rests_from (Some name) rests = map (rest_from name) rests
