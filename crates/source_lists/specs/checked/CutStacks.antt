-- Stacks that are cut, and of which frames are left out, by the marks of their names.
use Rattle.std.specs.Prelude.{ℕ, Bool, List, [], ◌∷◌, Option, None, Some, if◌then◌else◌, map, not}
use Rattle.std.specs.List.{filter}
use Rattle.sample_tables.specs.declared.samples.Sample.{Sample}
use Rattle.stack_core.specs.Reading.{Rest}
use Rattle.source_lists.specs.FromNames.{stack_from}
use Rattle.source_lists.specs.OmittedNames.{stack_without}
use Rattle.source_lists.specs.checked.NameMarks.{is_marked}

-- the stack from its first frame on at which it may begin, without the frames of the names that are left out
abbrev pub begun_stack : Option (List ℕ) → List (List ℕ) → List (List ℕ)
begun_stack None stack = stack
begun_stack (Some name) stack = stack_from name stack

abbrev pub shown_stack : Option (List ℕ) → List (List ℕ) → List (List ℕ) → List (List ℕ)
shown_stack from omitted stack = stack_without omitted (begun_stack from stack)

-- numbers from the first on whose mark is set, without those that have a mark of the others
abbrev pub from_marked : List Bool → List ℕ → List ℕ
from_marked marks [] = []
from_marked marks (number ∷ numbers) = if is_marked marks number then number ∷ numbers else from_marked marks numbers

abbrev pub unmarked : List Bool → List ℕ → List ℕ
unmarked marks numbers = filter (λ number. not (is_marked marks number)) numbers

abbrev pub shown_numbers : List Bool → List Bool → List ℕ → List ℕ
shown_numbers begun omitted numbers = unmarked omitted (from_marked begun numbers)

-- samples, and what is read of a source, with each stack edited
abbrev pub edited_sample : (List (List ℕ) → List (List ℕ)) → Sample → Sample
edited_sample edit sample = record { stack = edit sample.stack; weight = sample.weight }

abbrev pub edited_rest : (List (List ℕ) → List (List ℕ)) → Rest → Rest
edited_rest edit rest = record { samples = map (edited_sample edit) rest.samples; ending = rest.ending }
