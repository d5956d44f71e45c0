use Rattle.std.proofs.Common.{◌≡◌, None}
use Rattle.std.specs.Vec.Iter.{into_iter_items}
use Rattle.ring_collect.specs.checked.Intakes.{Brings}
use Rattle.ring_collect.proofs.FlatLemmas.{StillToCome}
use Rattle.ring_collect.proofs.intakes.Intake.take_all.Given as goal

-- what the records before those that are still to come brought
abbrev pub invariant-loop-step : goal.invariant-loop-step
invariant-loop-step g l =
    let taken = g.F.Feed.taken in
    let was = l.fn.self in
    record {
      origin : l.self.origin ≡ was.origin;
      consumer : l.self.consumer ≡ was.consumer;
      unclosed : l.self.close ≡ None;
      left : StillToCome l.fn.popped (λ front. Brings front was l.self (taken l.fn.sink) (taken l.sink) l.fn.order.items l.order.items)
          (into_iter_items l.step-iterator) (into_iter_items l.unread.names) l.unread.frames.now;
      setting : g.F.Feed.setting l.sink ≡ g.F.Feed.setting l.fn.sink;
    }
