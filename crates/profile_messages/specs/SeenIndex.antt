-- The places of a table's entries by their ids, as the code has them.
use Rattle.std.specs.Prelude.{◌≡◌, ℕ, List, Bool, Option, is_some, length, None, nat_lt, slice_index_or, if◌then◌else◌}
use Rattle.std.specs.Option.{option_and_then}
use Rattle.std.specs.List.{slice_get}
use Rattle.std.specs.Ordering.{nat_cmp}
use Rattle.std.specs.BTreeMap.{get}
use Rattle.profile_messages.specs.declared.ids.Index.{Index}
use Rattle.profile_messages.specs.declared.messages.PlacedNumber.{PlacedNumber}
use Rattle.profile_messages.specs.declared.messages.Location.{Location as CodeLocation}
use Rattle.profile_messages.specs.Tables.{entry_of}

-- the place that an id has
abbrev pub place_in : Index → ℕ → Option ℕ
place_in index id =
    if nat_lt id (length index.near.items) then slice_index_or index.near.items id None
    else get nat_cmp index.far id

abbrev pub code_location_id : CodeLocation → PlacedNumber
code_location_id location = record { at = location.at; number = location.id }

-- an id has a place
abbrev pub is_in : Index → ℕ → Bool
is_in index id = is_some (place_in index id)

-- the entry at a place
abbrev pub entry_at : {A : Type 0} → List A → Option ℕ → Option A
entry_at table place = option_and_then (slice_get table) place

-- the entry at the place of each id is the one that has it
pub record IsIndexOf {A : Type 0} (id_of : A → PlacedNumber) (table : List A) (index : Index) : Type 0 where
  pub each : (id : ℕ) → entry_at table (place_in index id) ≡ entry_of id_of table id
  pub known : (id : ℕ) → is_some (place_in index id) ≡ is_some (entry_of id_of table id)
