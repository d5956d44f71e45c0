use Rattle.ring_collect.proofs.RoundLemmas.{goes_on-refl, goes_on-trans}
use Rattle.ring_collect.proofs.rounds.Collector.drain.Goals as goal

pub loop-init : goal.loop-init
loop-init g c = record { ends = (tt, tt); goes = goes_on-refl }

pub returns-in-Closed : goal.returns-in-Closed
returns-in-Closed g c = record { goes = goes_on-trans c.loop.invariant.goes c.look_round.ensures.goes; closed = c.look_round.ensures.closed c.in-Closed.is }

pub loop-preserved : goal.loop-preserved
loop-preserved g c = record { ends = (tt, tt); goes = goes_on-trans c.loop.invariant.goes c.look_round.ensures.goes }
