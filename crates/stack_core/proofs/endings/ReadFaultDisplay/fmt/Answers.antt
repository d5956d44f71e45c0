use Rattle.std.proofs.Common.{append_assoc}
use Rattle.stack_core.proofs.endings.ReadFaultDisplay.fmt.Goals as goal

pub returns-clause-writes : goal.returns-clause-writes
returns-clause-writes g c = rw append_assoc c.write.ensures.writes
