use Rattle.ring_collect.specs.checked.Rounds.{GoesOn}
use Rattle.ring_collect.proofs.rounds.Collector.drain.Given as goal

abbrev pub invariant-loop : goal.invariant-loop
invariant-loop g l = record {
  ends : (goal.iterator-loop g).can_next l.iterator' × (goal.iterator-loop g).is_finite l.iterator';
  goes : GoesOn l.fn.self l.self (g.F.Feed.taken l.fn.sink) (g.F.Feed.taken l.sink) (g.F.Feed.setting l.fn.sink) (g.F.Feed.setting l.sink);
}
