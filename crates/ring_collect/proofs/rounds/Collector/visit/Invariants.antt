use Rattle.ring_collect.specs.checked.Rounds.{GoesOn}
use Rattle.ring_collect.proofs.rounds.Collector.visit.Given as goal

abbrev pub invariant-loop-taken : goal.invariant-loop-taken
invariant-loop-taken g l = GoesOn l.fn.self l.self (g.F.Feed.taken l.fn.sink) (g.F.Feed.taken l.sink) (g.F.Feed.setting l.fn.sink) (g.F.Feed.setting l.sink)
