-- The sample types of a profile (profile.proto, message ValueType, fields `type` and `unit`), as text.
use Rattle.std.specs.Prelude.{ℕ, List, Option, map, encode_utf8_all}
use Rattle.std.specs.List.{slice_get}
use Rattle.std.specs.Option.{option_and_then}
use Rattle.bstr.specs.Utf8.{lossy_chars}
use Rattle.run_options.specs.declared.choices.Pick.{Pick}
use Rattle.run_options.specs.declared.choices.Pick.TheVariants.{Preferred}
use Rattle.profile_messages.specs.declared.messages.ValueType.{ValueType}
use Rattle.profile_messages.specs.declared.types.SampleType.{SampleType}
use Rattle.profile_messages.specs.declared.types.SampleTypes.{SampleTypes}
use Rattle.profile_messages.specs.Tables.{sample_types_of, strings_of, string_at}
use Rattle.profile_messages.specs.Choosing.{picked_type, chosen_value}

-- the bytes as text, with U+FFFD for what is none
abbrev pub lossy_text : List ℕ → List ℕ
lossy_text bytes = encode_utf8_all (lossy_chars bytes)

abbrev pub type_of : List (List ℕ) → ValueType → SampleType
type_of strings value_type = record {
  name = lossy_text (string_at strings value_type.type_);
  unit = lossy_text (string_at strings value_type.unit);
}

-- all of a file, in order
abbrev pub types_of : List ℕ → List SampleType
types_of file = map (type_of (strings_of file)) (sample_types_of file)

-- the one whose value is a sample's weight
abbrev pub chosen_type : List ℕ → Pick → Option SampleType
chosen_type file pick = option_and_then (slice_get (types_of file)) (chosen_value file pick)

-- all of them, and the place of the default one, which a file without samples has too
abbrev pub all_types : List ℕ → SampleTypes
all_types file = record { types = types_of file; default = picked_type file Preferred }
