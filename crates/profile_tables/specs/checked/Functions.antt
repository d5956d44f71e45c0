-- The names of functions as the code has them.
use Rattle.std.specs.Prelude.{◌≡◌, ℕ, List, length, Some, map, string_bytes, codes, ◌==◌, if◌then◌else◌}
use Rattle.std.specs.List.{slice_get}
use Rattle.std.specs.Ordering.{nat_cmp}
use Rattle.std.specs.BTreeMap.{get}
use Rattle.profile_tables.specs.declared.functions.MadeNames.{MadeNames}
use Rattle.profile_messages.specs.declared.messages.Function.{Function}
use Rattle.profile_messages.specs.Tables.{string_at}
use Rattle.profile_tables.specs.Naming.{plain_text, name_or}

-- the index of the string that a function is named by
abbrev pub text_index : List (List ℕ) → Function → ℕ
text_index strings function = if length (string_at strings function.name) == 0 then function.system_name else function.name

-- the name that a string makes
abbrev pub name_or_unknown : List ℕ → List ℕ
name_or_unknown string = name_or (plain_text string) (codes "[unknown]")

-- the place of each string's index is that of its name
pub record AreMade (strings : List (List ℕ)) (made : MadeNames) : Type 0 where
  pub each : (index place : ℕ) → get nat_cmp made.places index ≡ Some place →
      slice_get (map string_bytes made.names.items) place ≡ Some (name_or_unknown (string_at strings index))
