use Rattle.std.proofs.Common.{◌≡◌, ◌+◌, ◌≤◌, length, map, vec_capacity}
use Rattle.std.specs.Arc.{arc_value}
use Rattle.ring_collect.specs.checked.RunningSources.{ArePromised, AreFresh}
use Rattle.ring_collect.proofs.reader_threads.start_all.Given as goal

-- as many are started as readers were taken, and the rings are for the others
abbrev pub invariant-loop-reader : goal.invariant-loop-reader
invariant-loop-reader g l = record {
  ends : (goal.iterator-loop-reader g).can_next l.reader-iterator × (goal.iterator-loop-reader g).is_finite l.reader-iterator;
  started : length l.sources.items ≡ length l.yielded;
  source : l.source ≡ length l.yielded;
  rings : length l.rings.items + length l.yielded ≡ length l.fn.readers.items;
  few : length l.fn.readers.items ≤ 64;
  room : length l.fn.readers.items ≤ vec_capacity l.sources;
  promised : ArePromised (arc_value l.gate) l.yielded (map (λ running. running.handle.promise) l.sources.items);
  fresh : AreFresh l.keeps (map (λ running. running.intake) l.sources.items);
}
