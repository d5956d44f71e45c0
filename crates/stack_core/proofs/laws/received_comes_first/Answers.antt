use Rattle.stack_core.proofs.ScheduleLemmas.{received_first, none_lost, received_grows}
use Rattle.stack_core.proofs.laws.received_comes_first.Goals as goal

pub returns-clause-prefix : goal.returns-clause-prefix
returns-clause-prefix g c = received_first

pub returns-clause-none_lost : goal.returns-clause-none_lost
returns-clause-none_lost g c = none_lost

pub returns-clause-grows : goal.returns-clause-grows
returns-clause-grows g c = received_grows
