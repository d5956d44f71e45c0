-- The tables of a profile (profile.proto, messages Profile, ValueType, Location, Line and Function), and what can be wrong with them.
use Rattle.std.specs.Prelude.{ℕ, ◌^◌, List, [], ◌∷◌, ◌++◌, length, Bool, Option, Some, None, map, flat_map, filter_map, find, is_some, slice_index_or, nat_lt, ◌==◌, ◌&&◌, ◌||◌, if◌then◌else◌}
use Rattle.std.specs.List.{list_any}
use Rattle.stack_core.specs.declared.endings.ReadKind.TheVariants.{BadStringZero, ZeroId, DuplicateId, BadString, UnknownFunction}
use Rattle.stack_core.specs.declared.endings.ReadFault.{ReadFault}
use Rattle.wire_fields.specs.Field.{WireField}
use Rattle.wire_fields.specs.Reading.{fields_of}
use Rattle.profile_messages.specs.declared.messages.PlacedNumber.{PlacedNumber}
use Rattle.profile_messages.specs.declared.messages.ValueType.{ValueType}
use Rattle.profile_messages.specs.declared.messages.Line.{Line}
use Rattle.profile_messages.specs.declared.messages.Function.{Function}
use Rattle.profile_messages.specs.Message.{last_or, scalar_from, Content, contents}
use Rattle.profile_messages.specs.Records.{Location, value_type_of, function_of, function_id, location_of, location_id}
use Rattle.profile_messages.specs.Shapes.{fault_at}

-- ---- the tables

abbrev pub sample_types_of : List ℕ → List ValueType
sample_types_of file = map value_type_of (contents 1 file)

abbrev pub samples_of : List ℕ → List Content
samples_of file = contents 2 file

abbrev pub locations_of : List ℕ → List Location
locations_of file = map location_of (contents 4 file)

abbrev pub functions_of : List ℕ → List Function
functions_of file = map function_of (contents 5 file)

-- the bytes of a string need not be text
abbrev pub strings_of : List ℕ → List (List ℕ)
strings_of file = map (λ text. text.bytes) (contents 6 file)

-- the entry of a table that has an id
abbrev pub entry_of : {A : Type 0} → (A → PlacedNumber) → List A → ℕ → Option A
entry_of id_of table id = find (λ entry. (id_of entry).number == id) table

abbrev pub function_at : List Function → ℕ → Option Function
function_at functions id = entry_of function_id functions id

abbrev pub location_at : List Location → ℕ → Option Location
location_at locations id = entry_of location_id locations id

-- The string at an index. Index 0 is always the empty string, also in an empty table.
abbrev pub string_at : List (List ℕ) → ℕ → List ℕ
string_at strings index = slice_index_or strings index []

-- ---- what is wrong with them

abbrev pub string_zero_faults : List Content → List ReadFault
string_zero_faults [] = []
string_zero_faults (text ∷ texts) = if length text.bytes == 0 then [] else fault_at text.at BadStringZero ∷ []

-- The id is 0, or one of those of the entries before it.
abbrev pub faults_of_id : List ℕ → PlacedNumber → List ReadFault
faults_of_id earlier id =
    if id.number == 0 then fault_at id.at ZeroId ∷ []
    else if list_any (λ other. other == id.number) earlier then fault_at id.at DuplicateId ∷ []
    else []

abbrev pub id_faults : List ℕ → List PlacedNumber → List ReadFault
id_faults earlier [] = []
id_faults earlier (id ∷ ids) = faults_of_id earlier id ++ id_faults (earlier ++ id.number ∷ []) ids

-- An index, of which a negative one is seen as its 64 bits, that is neither 0 nor below the number of strings.
abbrev pub index_faults : ℕ → ℕ → ℕ → List ReadFault
index_faults count at index = if index == 0 || nat_lt index count && nat_lt index (2 ^ 63) then [] else fault_at at BadString ∷ []

abbrev pub faults_of_type : ℕ → ValueType → List ReadFault
faults_of_type count value_type =
    index_faults count value_type.at value_type.type_ ++ index_faults count value_type.at value_type.unit

abbrev pub faults_of_function : ℕ → Function → List ReadFault
faults_of_function count function =
    index_faults count function.at function.name ++ index_faults count function.at function.system_name

abbrev pub placed_from : ℕ → Option ℕ → Option PlacedNumber
placed_from at None = None
placed_from at (Some n) = Some (record { at = at; number = n })

abbrev pub default_from : WireField → Option PlacedNumber
default_from field = placed_from field.at (scalar_from 14 field)

-- `default_sample_type`, and where its last field stands
abbrev pub default_of : List ℕ → PlacedNumber
default_of file = last_or (record { at = 0; number = 0 }) (filter_map default_from (fields_of file).items)

-- `type` and `unit` of each sample type, the default, `name` and `system_name` of each function
abbrev pub string_faults : List ℕ → List ReadFault
string_faults file = let count = length (strings_of file) in
    flat_map (faults_of_type count) (sample_types_of file)
    ++ index_faults count (default_of file).at (default_of file).number
    ++ flat_map (faults_of_function count) (functions_of file)

-- a line's function, where it is not 0, is one that is known
abbrev pub line_faults : (ℕ → Bool) → ℕ → Line → List ReadFault
line_faults is_known at line = if line.function_id == 0 || is_known line.function_id then [] else fault_at at UnknownFunction ∷ []

abbrev pub location_faults : (ℕ → Bool) → Location → List ReadFault
location_faults is_known location = flat_map (line_faults is_known location.at) location.lines

abbrev pub is_function : List Function → ℕ → Bool
is_function functions id = is_some (function_at functions id)
