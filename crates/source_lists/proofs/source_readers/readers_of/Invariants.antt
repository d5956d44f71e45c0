use Rattle.std.proofs.Common.{◌≡◌, [], All, map}
use Rattle.stack_core.specs.Reading.{IsSourceLimited}
use Rattle.source_lists.specs.Sources.{whole_rests}
use Rattle.source_lists.specs.checked.Readers.{reader_rest, reader_told}
use Rattle.source_lists.proofs.source_readers.readers_of.Given as goal

abbrev pub invariant-loop-source : goal.invariant-loop-source
invariant-loop-source l = record {
  rests : map reader_rest l.readers.items ≡ whole_rests l.options l.yielded;
  limits : All (λ rest. IsSourceLimited rest.samples) (whole_rests l.options l.yielded);
  told : All (λ reader. reader_told reader ≡ record { names = []; stacks = [] }) l.readers.items;
}
