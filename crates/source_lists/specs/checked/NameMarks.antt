-- Marks of names, and tests of them.
use Rattle.std.specs.Prelude.{ℕ, Bool, true, false, List, [], ◌∷◌, Option, None, Some, slice_index_or}
use Rattle.std.specs.List.{list_any}
use Rattle.std.specs.Str.{bytes_eq}
use Rattle.run_options.specs.Filters.{has_match}
use Rattle.source_lists.specs.declared.name_marks.NameTest.{NameTest}
use Rattle.source_lists.specs.declared.name_marks.NameTest.TheVariants as test

-- the mark of this number is set
abbrev pub is_marked : List Bool → ℕ → Bool
is_marked marks number = slice_index_or marks number false

-- a stack may begin at a frame of this name: at each where none is given
abbrev pub begins : Option (List ℕ) → List ℕ → Bool
begins None frame = true
begins (Some name) frame = bytes_eq frame name

abbrev pub is_among : List (List ℕ) → List ℕ → Bool
is_among names frame = list_any (λ name. bytes_eq frame name) names

abbrev pub holds : NameTest → List ℕ → Bool
holds (test.Begins from) name = begins from.now name
holds (test.IsAmong names) name = is_among names.now name
holds (test.HasFocus filter) name = has_match filter.now.focus (name ∷ [])
holds (test.IsHidden filter) name = has_match filter.now.hide (name ∷ [])
