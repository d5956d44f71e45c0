use Rattle.std.proofs.Common.{◌≡◌}
use Rattle.rtrb.specs.Ring.{sent, SameProducer}
use Rattle.ring_collect.proofs.outlets.Outlet.wait_for_room.Given as goal

-- nothing is sent meanwhile
abbrev pub invariant-loop : goal.invariant-loop
invariant-loop g l = record {
  ends : (goal.iterator-loop g).can_next l.iterator' × (goal.iterator-loop g).is_finite l.iterator';
  ring : SameProducer l.fn.self.producer l.self.producer;
  sent : sent l.self.producer ≡ sent l.fn.self.producer;
  pending : l.self.pending ≡ l.fn.self.pending;
}
