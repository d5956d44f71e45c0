use Rattle.stack_core.proofs.ScheduleLemmas.{queues_bounded}
use Rattle.stack_core.proofs.laws.queues_stay_bounded.Goals as goal

pub returns : goal.returns
returns g c = queues_bounded
