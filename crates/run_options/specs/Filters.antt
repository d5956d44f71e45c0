-- Which samples a filter keeps.
use Rattle.std.specs.Prelude.{ℕ, ◌||◌, ◌&&◌, Bool, true, false, List, [], ◌∷◌, nat_eq, not}
use Rattle.std.specs.List.{filter, list_any, starts_with}
use Rattle.stack_core.specs.Reading.{Rest}
use Rattle.sample_tables.specs.declared.samples.Sample.{Sample}
use Rattle.run_options.specs.declared.filters.Filter.{Filter}

-- the text stands at some place of the name
abbrev pub has_text : List ℕ → List ℕ → Bool
has_text text [] = starts_with nat_eq [] text
has_text text (byte ∷ name) = starts_with nat_eq (byte ∷ name) text || has_text text name

-- a frame's name has one of the texts
abbrev pub has_match : List (List ℕ) → List (List ℕ) → Bool
has_match texts stack = list_any (λ name. list_any (λ text. has_text text name) texts) stack

abbrev pub is_none : List (List ℕ) → Bool
is_none [] = true
is_none (text ∷ texts) = false

-- a frame is in the focus, unless there is none, and no frame is hidden
abbrev pub keeps : Filter → List (List ℕ) → Bool
keeps asked stack = (is_none asked.focus || has_match asked.focus stack) && not (has_match asked.hide stack)

abbrev pub kept_samples : Filter → List Sample → List Sample
kept_samples asked samples = filter (λ sample. keeps asked sample.stack) samples

-- what is kept of a source: its samples, some of them, and its ending
abbrev pub kept_rest : Filter → Rest → Rest
kept_rest asked rest = record { samples = kept_samples asked rest.samples; ending = rest.ending }

-- the filter that asks for nothing
abbrev pub everything : Filter
everything = record { focus = []; hide = [] }

abbrev pub is_everything : Filter → Bool
is_everything asked = is_none asked.focus && is_none asked.hide
