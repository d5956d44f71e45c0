-- What is wrong with the tables of a profile, as the code has them.
use Rattle.std.specs.Prelude.{ℕ, List, [], ◌++◌, map, flat_map}
use Rattle.stack_core.specs.declared.endings.ReadFault.{ReadFault}
use Rattle.run_options.specs.declared.choices.Pick.{Pick}
use Rattle.profile_messages.specs.declared.ids.Index.{Index}
use Rattle.profile_messages.specs.declared.profile.Profile.{Profile}
use Rattle.profile_messages.specs.Records.{function_id}
use Rattle.profile_messages.specs.Tables.{string_zero_faults, id_faults, string_faults, location_faults}
use Rattle.profile_messages.specs.Choosing.{type_faults}
use Rattle.profile_messages.specs.SeenIndex.{is_in}
use Rattle.profile_messages.specs.SeenProfile.{seen_table, seen_locations}

-- the faults of the first string and of the functions' ids
abbrev pub string_zero_and_function_faults : Profile → List ReadFault
string_zero_and_function_faults profile =
    string_zero_faults (seen_table profile.strings.items) ++ id_faults [] (map function_id profile.functions.items)

-- the faults of what names a string or a function
abbrev pub name_faults : List ℕ → Profile → Index → List ReadFault
name_faults file profile functions =
    string_faults file ++ flat_map (location_faults (is_in functions)) (seen_locations profile)

-- the faults that are looked for behind those of ids
abbrev pub faults_behind_ids : List ℕ → Profile → Index → Pick → List ReadFault
faults_behind_ids file profile functions pick = name_faults file profile functions ++ type_faults file pick
