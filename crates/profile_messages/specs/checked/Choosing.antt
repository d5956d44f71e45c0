-- The chosen value as the code has it.
use Rattle.std.specs.Prelude.{ℕ, List, length, Option, None, map, ◌==◌, if◌then◌else◌}
use Rattle.run_options.specs.declared.choices.Pick.{Pick}
use Rattle.profile_messages.specs.declared.profile.Profile.{Profile}
use Rattle.profile_messages.specs.Tables.{string_at}
use Rattle.profile_messages.specs.SeenProfile.{texts_of}
use Rattle.profile_messages.specs.Choosing.{place_picked}

-- the names of the sample types
abbrev pub names_of_types : Profile → List (List ℕ)
names_of_types profile =
    map (λ value_type. string_at (texts_of profile.strings.items) value_type.type_) profile.sample_types.items

-- the place of the picked type
abbrev pub picked_of : Profile → Pick → Option ℕ
picked_of profile pick =
    if length profile.sample_types.items == 0 then None
    else place_picked pick (string_at (texts_of profile.strings.items) profile.default.number) (names_of_types profile)

-- the place of the chosen value
abbrev pub chosen_of : Profile → Pick → Option ℕ
chosen_of profile pick = if length profile.samples.items == 0 then None else picked_of profile pick
