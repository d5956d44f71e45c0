use Rattle.std.proofs.Common.{◌≡◌, Some, take, map}
use Rattle.std.specs.Prelude.{string_bytes}
use Rattle.profile_messages.specs.SeenProfile.{items_in, seen_location}
use Rattle.profile_tables.specs.checked.Frames.{text_of, name_in, location_named}
use Rattle.profile_tables.proofs.lines.frames_of.Given as goal

abbrev pub invariant-loop-location : goal.invariant-loop-location
invariant-loop-location l =
    map (items_in (map (text_of (map string_bytes l.names.items) l.naming) l.all.items)) l.spans.items
    ≡ map (λ location. Some (location_named (name_in l.functions l.places.items (map string_bytes l.names.items)) l.naming (seen_location l.profile.lines.items location))) (take l.location-index l.location-items)
