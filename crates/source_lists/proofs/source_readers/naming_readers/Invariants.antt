-- the readers so far give the samples of those that were taken
use Rattle.std.proofs.Common.{◌≡◌, map}
use Rattle.source_lists.specs.checked.Readers.{naming_rest, reader_rest}
use Rattle.source_lists.proofs.source_readers.naming_readers.Given as goal

abbrev pub invariant-loop-reader : goal.invariant-loop-reader
invariant-loop-reader l = map naming_rest l.all.items ≡ map reader_rest l.yielded
