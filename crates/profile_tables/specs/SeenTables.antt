-- `Tables` as contracts see it.
use Rattle.std.specs.Prelude.{◌≡◌, ℕ, List, Option, Some, None, map, string_bytes, String}
use Rattle.std.specs.declared.alloc.Global.{Global}
use Rattle.std.specs.Option.{option_and_then}
use Rattle.std.specs.List.{slice_get}
use Rattle.std.specs.Borrow.{Bor}
use Rattle.profile_messages.specs.declared.types.SampleType.{SampleType}
use Rattle.profile_messages.specs.SeenIndex.{place_in}
use Rattle.profile_tables.specs.declared.tables.Tables.{Tables}
use Rattle.profile_tables.specs.Samples.{SampleTables}

abbrev pub seen_tables : Tables → SampleTables
seen_tables tables = record {
  sample_types = tables.sample_types;
  chosen = tables.chosen;
  frames = λ id. option_and_then (slice_get tables.frames.items) (place_in tables.locations id);
}

-- the type of the chosen value
abbrev pub seen_type : Tables → Option SampleType
seen_type tables = tables.type_of_chosen

-- the names that are lent
abbrev pub LendsNames : Option (List (List ℕ)) → Option (Bor (List (String Global))) → Type 0
LendsNames names None = names ≡ None
LendsNames names (Some lent) = names ≡ Some (map string_bytes lent.now)

-- the type that is lent
abbrev pub LendsType : Option SampleType → Option (Bor SampleType) → Type 0
LendsType found None = found ≡ None
LendsType found (Some lent) = found ≡ Some lent.now
