-- The messages of a file, and its strings, as the code has them.
use Rattle.std.specs.Prelude.{◌≡◌, ℕ, List, [], length, Option, Some, None, map, unwrap_or, nat_le, slice_range, ◌&&◌, if◌then◌else◌}
use Rattle.profile_messages.specs.declared.profile.Profile.{Profile}
use Rattle.profile_messages.specs.declared.messages.Line.{Line}
use Rattle.profile_messages.specs.declared.messages.Span.{Span}
use Rattle.profile_messages.specs.declared.messages.Location.{Location as CodeLocation}
use Rattle.profile_messages.specs.Message.{contents, Content as SeenContent}
use Rattle.profile_messages.specs.Records.{Location}
use Rattle.profile_messages.specs.Tables.{sample_types_of, samples_of, locations_of, functions_of, default_of}
use Rattle.profile_messages.specs.Offsets.{offset_of}
use Rattle.profile_messages.specs.declared.message.Content.{Content}

abbrev pub seen_content : Content → SeenContent
seen_content content = record { at = content.at; bytes = content.bytes.now }

abbrev pub seen_table : List Content → List SeenContent
seen_table table = map seen_content table

-- the strings
abbrev pub texts_of : List Content → List (List ℕ)
texts_of strings = map (λ text. text.bytes) (seen_table strings)

-- the items of a span, where it is one of the list
abbrev pub items_in : {A : Type 0} → List A → Span → Option (List A)
items_in items span =
    if nat_le span.start span.end && nat_le span.end (length items) then Some (slice_range items span.start span.end)
    else None

abbrev pub lines_at : List Line → Span → List Line
lines_at lines span = unwrap_or (items_in lines span) []

-- a location with these lines
abbrev pub with_lines : CodeLocation → List Line → Location
with_lines location lines = record { at = location.at; id = location.id; address = location.address; lines = lines }

-- a location, of which these are all locations' lines
abbrev pub seen_location : List Line → CodeLocation → Location
seen_location lines location = with_lines location (lines_at lines location.lines)

abbrev pub seen_locations : Profile → List Location
seen_locations profile = map (seen_location profile.lines.items) profile.locations.items

pub record IsProfileOf (file : List ℕ) (profile : Profile) : Type 0 where
  pub sample_types : profile.sample_types.items ≡ sample_types_of file
  pub samples : profile.samples.items ≡ map offset_of (samples_of file)
  pub locations : seen_locations profile ≡ locations_of file
  pub functions : profile.functions.items ≡ functions_of file
  pub strings : seen_table profile.strings.items ≡ contents 6 file
  pub default : profile.default ≡ default_of file
