use Rattle.std.proofs.Common.{◌≡◌, map}
use Rattle.source_lists.specs.Sources.{known_source}
use Rattle.source_lists.proofs.inputs.Input.all_of.Given as goal

abbrev pub invariant-loop-source : goal.invariant-loop-source
invariant-loop-source l = l.inputs.items ≡ map known_source l.yielded
