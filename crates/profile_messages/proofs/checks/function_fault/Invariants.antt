use Rattle.std.proofs.Common.{◌≡◌, drop, map}
use Rattle.std.specs.Prelude.{flat_map}
use Rattle.profile_messages.specs.Message.{first}
use Rattle.profile_messages.specs.Tables.{location_faults}
use Rattle.profile_messages.specs.SeenIndex.{is_in}
use Rattle.profile_messages.specs.SeenProfile.{seen_location, seen_locations}
use Rattle.profile_messages.proofs.checks.function_fault.Given as goal

abbrev pub invariant-loop-location : goal.invariant-loop-location
invariant-loop-location l =
    first (flat_map (location_faults (is_in l.functions)) (map (seen_location l.profile.lines.items) (drop l.location-index l.profile.locations.items)))
    ≡ first (flat_map (location_faults (is_in l.functions)) (seen_locations l.profile))
