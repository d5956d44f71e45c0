-- the names of the types so far
use Rattle.std.proofs.Common.{◌≡◌, string_bytes, take}
use Rattle.std.specs.List.{flat_map}
use Rattle.flame_tool.specs.NextSteps.{type_word}
use Rattle.flame_tool.proofs.step_commands.type_words.Given as goal

abbrev pub invariant-loop-sample_type : goal.invariant-loop-sample_type
invariant-loop-sample_type l = string_bytes l.text ≡ flat_map type_word (take l.sample_type-index l.types)
