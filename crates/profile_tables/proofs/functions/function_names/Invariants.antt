use Rattle.std.proofs.Common.{◌≡◌, Some, take, map}
use Rattle.std.specs.Prelude.{string_bytes}
use Rattle.std.specs.List.{slice_get}
use Rattle.profile_tables.specs.Naming.{function_name}
use Rattle.profile_messages.specs.SeenProfile.{texts_of}
use Rattle.profile_tables.specs.checked.Functions.{AreMade}
use Rattle.profile_tables.proofs.functions.function_names.Given as goal

abbrev pub invariant-loop-function : goal.invariant-loop-function
invariant-loop-function l = record {
  made : AreMade (texts_of l.strings) l.made;
  places : map (slice_get (map string_bytes l.made.names.items)) l.places.items
      ≡ map (λ function. Some (function_name (texts_of l.strings) function)) (take l.function-index l.functions);
}
