use Rattle.std.proofs.Common.{◌≡◌, IfSome, take}
use Rattle.std.specs.List.{AllZip}
use Rattle.source_lists.specs.Sources.{known_input}
use Rattle.source_lists.specs.Types.{input_type}
use Rattle.source_lists.proofs.source_types.chosen_types.Given as goal

abbrev pub invariant-loop-input : goal.invariant-loop-input
invariant-loop-input l = AllZip (λ input found. IfSome (known_input input) (λ source. found ≡ input_type l.options source)) (take l.input-index l.inputs) l.types.items
