use Rattle.std.proofs.Common.{◌≡◌, take, map}
use Rattle.profile_messages.specs.SampleTypes.{type_of}
use Rattle.profile_messages.specs.SeenProfile.{texts_of}
use Rattle.profile_messages.proofs.types.types_of.Given as goal

abbrev pub invariant-loop-value_type : goal.invariant-loop-value_type
invariant-loop-value_type l = l.types.items ≡ map (type_of (texts_of l.strings)) (take l.value_type-index l.value_types)
