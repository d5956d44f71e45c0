-- Samples of whose stacks the frames of some names are left out.
use Rattle.std.specs.Prelude.{ℕ, List, Option, map, not}
use Rattle.std.specs.List.{filter, list_any}
use Rattle.std.specs.Str.{bytes_eq}
use Rattle.stack_core.specs.Reading.{Rest}
use Rattle.sample_tables.specs.declared.samples.Sample.{Sample}
use Rattle.source_lists.specs.FromNames.{rests_from}

-- the frames whose whole name is none of these
abbrev pub stack_without : List (List ℕ) → List (List ℕ) → List (List ℕ)
stack_without names stack = filter (λ frame. not (list_any (λ name. bytes_eq frame name) names)) stack

-- each sample stays: one whose frames are all left out weighs in the root alone
abbrev pub sample_without : List (List ℕ) → Sample → Sample
sample_without names sample = record { stack = stack_without names sample.stack; weight = sample.weight }

abbrev pub rest_without : List (List ℕ) → Rest → Rest
rest_without names rest = record { samples = map (sample_without names) rest.samples; ending = rest.ending }

-- what is shown of sources: stacks that may begin at a frame of a name, and of these the frames that no name leaves out
abbrev pub shown_rests : Option (List ℕ) → List (List ℕ) → List Rest → List Rest
shown_rests from omitted rests = map (rest_without omitted) (rests_from from rests)
