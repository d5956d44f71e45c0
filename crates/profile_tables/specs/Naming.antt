-- The names of frames.
use Rattle.std.specs.Prelude.{ℕ, ◌^◌, List, [], ◌∷◌, ◌++◌, length, map, reverse, Option, Some, None, option_map, nat_lt, ◌==◌, ◌&&◌, if◌then◌else◌, encode_utf8_all, codes, decimal}
use Rattle.std.specs.Fmt.{digits}
use Rattle.std.specs.Prelude.{false}
use Rattle.bstr.specs.Utf8.{lossy_chars}
use Rattle.run_options.specs.declared.choices.Naming.{Naming}
use Rattle.run_options.specs.declared.choices.Naming.TheVariants.{Plain, Lines}
use Rattle.profile_messages.specs.declared.messages.Line.{Line}
use Rattle.profile_messages.specs.declared.messages.Function.{Function}
use Rattle.profile_messages.specs.Records.{Location}
use Rattle.profile_messages.specs.Tables.{strings_of, functions_of, locations_of, string_at, function_at, location_at}

-- `;` becomes `:`, and line feed a space, so that a name is a name of folded lines
abbrev pub plain_char : ℕ → ℕ
plain_char char = if char == 59 then 58 else if char == 10 then 32 else char

-- the bytes as text, with U+FFFD for what is none
abbrev pub plain_text : List ℕ → List ℕ
plain_text bytes = encode_utf8_all (map plain_char (lossy_chars bytes))

-- `0x` and the address
abbrev pub address_frame : ℕ → List ℕ
address_frame address = codes "0x" ++ digits 16 false address

-- the first of the two that is not empty
abbrev pub name_or : List ℕ → List ℕ → List ℕ
name_or name other = if length name == 0 then other else name

-- a function's name, else its system name
abbrev pub function_name : List (List ℕ) → Function → List ℕ
function_name strings function =
    name_or (plain_text (name_or (string_at strings function.name) (string_at strings function.system_name)))
    (codes "[unknown]")

-- `:` and the line, where lines are asked for and the line, an int64, is above 0
abbrev pub line_suffix : Naming → ℕ → List ℕ
line_suffix Plain line = []
line_suffix Lines line = if nat_lt 0 line && nat_lt line (2 ^ 63) then 58 ∷ decimal line else []

-- a line of a function, where it is of one
abbrev pub name_of_line : List (List ℕ) → Naming → ℕ → ℕ → Option Function → List ℕ
name_of_line strings naming address line None = address_frame address
name_of_line strings naming address line (Some function) = function_name strings function ++ line_suffix naming line

-- the name of a line at an address: function 0 is no function
abbrev pub frame_name : List (List ℕ) → (ℕ → Option Function) → Naming → ℕ → Line → List ℕ
frame_name strings known naming address line =
    name_of_line strings naming address line.line (if line.function_id == 0 then None else known line.function_id)

-- The frames of a location, root first: its last line is the caller into which the earlier ones were inlined.
-- A location without lines is one address.
abbrev pub frames_of_lines : List (List ℕ) → (ℕ → Option Function) → Naming → ℕ → List Line → List (List ℕ)
frames_of_lines strings known naming address [] = address_frame address ∷ []
frames_of_lines strings known naming address (line ∷ lines) =
    reverse (map (frame_name strings known naming address) (line ∷ lines))

abbrev pub frames_of_location : List (List ℕ) → (ℕ → Option Function) → Naming → Location → List (List ℕ)
frames_of_location strings known naming location = frames_of_lines strings known naming location.address location.lines

-- the frames of a location id
abbrev pub frames_of : List ℕ → Naming → ℕ → Option (List (List ℕ))
frames_of file naming id =
    option_map (frames_of_location (strings_of file) (function_at (functions_of file)) naming) (location_at (locations_of file) id)
