use Rattle.std.specs.List.{AllZip}
use Rattle.source_lists.specs.checked.InputReaders.{IsReaderOf}
use Rattle.source_lists.proofs.input_readers.readers_of_inputs.Given as goal

abbrev pub invariant-loop-input : goal.invariant-loop-input
invariant-loop-input l = AllZip (IsReaderOf l.options) l.yielded l.readers.items
