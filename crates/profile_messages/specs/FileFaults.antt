-- All that can be wrong with a file before its samples are read.
use Rattle.std.specs.Prelude.{ℕ, List, [], ◌∷◌, ◌++◌, length, flat_map, slice_index, nat_lt, ◌==◌, ◌&&◌, Bool, if◌then◌else◌, map}
use Rattle.stack_core.specs.declared.endings.ReadKind.TheVariants.{Compressed}
use Rattle.stack_core.specs.declared.endings.ReadFault.{ReadFault}
use Rattle.run_options.specs.declared.choices.Pick.{Pick}
use Rattle.profile_messages.specs.Shapes.{fault_at, field_faults}
use Rattle.profile_messages.specs.Tables.{functions_of, locations_of, string_zero_faults, id_faults, string_faults, location_faults, is_function}
use Rattle.profile_messages.specs.Message.{contents}
use Rattle.profile_messages.specs.Records.{function_id, location_id}
use Rattle.profile_messages.specs.Choosing.{type_faults}

-- the faults of its tables, in the order in which they are looked for
abbrev pub table_faults : List ℕ → Pick → List ReadFault
table_faults file pick =
    string_zero_faults (contents 6 file)
    ++ id_faults [] (map function_id (functions_of file))
    ++ id_faults [] (map location_id (locations_of file))
    ++ string_faults file
    ++ flat_map (location_faults (is_function (functions_of file))) (locations_of file)
    ++ type_faults file pick

abbrev pub is_gzip : List ℕ → Bool
is_gzip file = nat_lt 1 (length file) && (slice_index file 0 == 0x1f && slice_index file 1 == 0x8b)

-- the faults of a file before its tables are looked at
abbrev pub early_faults : List ℕ → List ReadFault
early_faults file = (if is_gzip file then fault_at 0 Compressed ∷ [] else []) ++ field_faults file

-- the faults of a file before its samples, in the order in which they are looked for
abbrev pub file_faults : List ℕ → Pick → List ReadFault
file_faults file pick = early_faults file ++ table_faults file pick
