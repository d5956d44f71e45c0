-- What one more field of a file adds to its messages.
use Rattle.std.specs.Prelude.{◌≡◌, List, ◌++◌, Option, Some, None, map, option_map, unwrap_or, option_to_list}
use Rattle.stack_core.specs.declared.endings.ReadKind.{ReadKind}
use Rattle.wire_fields.specs.Field.{WireField}
use Rattle.profile_messages.specs.declared.profile.Profile.{Profile}
use Rattle.profile_messages.specs.declared.messages.Line.{Line}
use Rattle.profile_messages.specs.declared.messages.Location.{Location as CodeLocation}
use Rattle.profile_messages.specs.Message.{first, content_of}
use Rattle.profile_messages.specs.Shapes.{faults_of_field, profile_shape}
use Rattle.profile_messages.specs.Records.{Location, value_type_of, function_of, location_of}
use Rattle.profile_messages.specs.Tables.{default_from}
use Rattle.profile_messages.specs.SeenProfile.{seen_table, items_in, with_lines}
use Rattle.profile_messages.specs.Offsets.{offset_of}

-- a location, where all its lines are some of these
abbrev pub whole_location : List Line → CodeLocation → Option Location
whole_location lines location = option_map (with_lines location) (items_in lines location.lines)

-- these locations, and the one of a further field, where it holds one
abbrev pub GainsLocation : WireField → Profile → Profile → Type 0
GainsLocation field old new = (before : List Location) →
    map (whole_location old.lines.items) old.locations.items ≡ map (λ location. Some location) before →
    map (whole_location new.lines.items) new.locations.items
    ≡ map (λ location. Some location) (before ++ map location_of (option_to_list (content_of 4 field)))

-- the profile has one more field
pub record GainsField (field : WireField) (old new : Profile) : Type 0 where
  pub sample_types : new.sample_types.items ≡ old.sample_types.items ++ map value_type_of (option_to_list (content_of 1 field))
  pub samples : new.samples.items ≡ old.samples.items ++ map offset_of (option_to_list (content_of 2 field))
  pub locations : GainsLocation field old new
  pub functions : new.functions.items ≡ old.functions.items ++ map function_of (option_to_list (content_of 5 field))
  pub strings : seen_table new.strings.items ≡ seen_table old.strings.items ++ option_to_list (content_of 6 field)
  pub default : new.default ≡ unwrap_or (default_from field) old.default

-- the same, where the field has no fault, and else its first fault
abbrev pub IsFieldAdded : WireField → Profile → Profile → Option ReadKind → Type 0
IsFieldAdded field old new None = (first (faults_of_field profile_shape field) ≡ None) × GainsField field old new
IsFieldAdded field old new (Some kind) = first (faults_of_field profile_shape field) ≡ Some kind
