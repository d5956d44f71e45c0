use Rattle.std.proofs.Common.{◌≡◌, IfSome}
use Rattle.std.specs.List.{AllZip}
use Rattle.source_lists.specs.Sources.{known_input}
use Rattle.source_lists.proofs.inputs.Input.load_all.Given as goal

abbrev pub invariant-loop-input : goal.invariant-loop-input
invariant-loop-input l = AllZip (λ input source. IfSome (known_input input) (λ known. source ≡ known)) l.yielded l.sources.items
