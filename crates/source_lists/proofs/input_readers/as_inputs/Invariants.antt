use Rattle.std.specs.List.{AllZip}
use Rattle.source_lists.proofs.input_readers.as_inputs.Given as goal

abbrev pub invariant-loop-part : goal.invariant-loop-part
invariant-loop-part g l = AllZip (λ part reader. g.R.Into.converts part reader) l.yielded l.readers.items
