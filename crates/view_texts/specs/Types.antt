-- The text of the sample types of a profile: a line each, in order.
use Rattle.std.specs.Prelude.{ℕ, ◌+◌, ◌==◌, Bool, false, List, [], ◌∷◌, ◌++◌, Option, codes, if◌then◌else◌}
use Rattle.std.specs.List.{concat}
use Rattle.std.specs.Option.{option_map_or}
use Rattle.profile_messages.specs.declared.types.SampleType.{SampleType}
use Rattle.profile_messages.specs.declared.types.SampleTypes.{SampleTypes}

-- the name and the unit, and `default` where the type is the default one, with tabs between them
abbrev pub mark : Bool → List ℕ
mark is_default = if is_default then 9 ∷ codes "default" else []

abbrev pub type_line : SampleType → Bool → List ℕ
type_line type is_default = type.name ++ 9 ∷ (type.unit ++ (mark is_default ++ 10 ∷ []))

abbrev pub is_at : Option ℕ → ℕ → Bool
is_at default place = option_map_or (λ at. at == place) default false

-- the lines of the types from a place on
abbrev pub lines_from : Option ℕ → ℕ → List SampleType → List (List ℕ)
lines_from default place [] = []
lines_from default place (type ∷ types) =
    type_line type (is_at default place) ∷ lines_from default (place + 1) types

abbrev pub type_lines : SampleTypes → List (List ℕ)
type_lines types = lines_from types.default 0 types.types

abbrev pub types_text : SampleTypes → List ℕ
types_text types = concat (type_lines types)
