use Rattle.stack_core.proofs.ScheduleLemmas.{received_close_last}
use Rattle.stack_core.proofs.laws.a_received_close_is_the_last.Goals as goal

pub returns : goal.returns
returns c = received_close_last
