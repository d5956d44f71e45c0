use Rattle.std.proofs.Common.{◌≡◌, All, length}
use Rattle.ring_collect.specs.checked.RunningSources.{IsOfSize}
use Rattle.ring_collect.proofs.room.make_rings.Given as goal

abbrev pub invariant-loop : goal.invariant-loop
invariant-loop l = record {
  count : length l.rings.items ≡ l.counter;
  size : All (IsOfSize l.handover.ring) l.rings.items;
}
