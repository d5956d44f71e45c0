use Rattle.std.proofs.Common.{◌≡◌, ◌++◌, map}
use Rattle.rtrb.specs.Ring.{SameProducer}
use Rattle.stack_core.specs.declared.records.RingRecord.TheVariants.{Name}
use Rattle.ring_collect.specs.checked.Batches.{told_to}
use Rattle.ring_collect.proofs.tellers.tell_names.Given as goal

-- the names so far are told
abbrev pub invariant-loop-name : goal.invariant-loop-name
invariant-loop-name g l = record {
  ring : SameProducer l.fn.outlet.producer l.outlet.producer;
  told : told_to l.outlet ≡ told_to l.fn.outlet ++ map Name l.yielded;
}
