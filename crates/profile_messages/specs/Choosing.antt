-- Which value of a sample is its weight.
use Rattle.std.specs.Prelude.{ℕ, ◌-◌, List, [], ◌∷◌, length, Option, Some, None, map, position, is_some, unwrap_or, bytes_eq, ◌==◌, if◌then◌else◌}
use Rattle.stack_core.specs.declared.endings.ReadKind.TheVariants.{NoSampleType, UnknownSampleType}
use Rattle.stack_core.specs.declared.endings.ReadFault.{ReadFault}
use Rattle.run_options.specs.declared.choices.Pick.{Pick}
use Rattle.run_options.specs.declared.choices.Pick.TheVariants.{Preferred, Named}
use Rattle.profile_messages.specs.Tables.{sample_types_of, samples_of, strings_of, default_of, string_at}
use Rattle.profile_messages.specs.Shapes.{fault_at}

-- the names of the sample types
abbrev pub type_names : List ℕ → List (List ℕ)
type_names file = map (λ value_type. string_at (strings_of file) value_type.type_) (sample_types_of file)

-- the place of the first name that is this one
abbrev pub position_of : List ℕ → List (List ℕ) → Option ℕ
position_of name names = position (λ other. bytes_eq other name) names

-- Preferred is the default, where it is not empty and a sample type has it, and else the last type.
abbrev pub place_picked : Pick → List ℕ → List (List ℕ) → Option ℕ
place_picked (Named name) default names = position_of name names
place_picked Preferred default names = let last = length names - 1 in
    if length default == 0 then Some last else Some (unwrap_or (position_of default names) last)

-- the place of the sample type that is picked
abbrev pub picked_type : List ℕ → Pick → Option ℕ
picked_type file pick =
    if length (sample_types_of file) == 0 then None
    else place_picked pick (string_at (strings_of file) (default_of file).number) (type_names file)

-- the place of the value that is a sample's weight
abbrev pub chosen_value : List ℕ → Pick → Option ℕ
chosen_value file pick = if length (samples_of file) == 0 then None else picked_type file pick

-- a file with samples has sample types, and the one that was asked for
abbrev pub type_faults : List ℕ → Pick → List ReadFault
type_faults file pick =
    if length (samples_of file) == 0 then []
    else if length (sample_types_of file) == 0 then fault_at (length file) NoSampleType ∷ []
    else if is_some (chosen_value file pick) then []
    else fault_at (length file) UnknownSampleType ∷ []
