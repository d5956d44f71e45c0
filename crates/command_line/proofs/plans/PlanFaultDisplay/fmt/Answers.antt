use Rattle.std.proofs.Common.{rules}
use Rattle.command_line.proofs.plans.PlanFaultDisplay.fmt.Goals as goal

pub returns-in-OutOfMemory-clause-writes : goal.returns-in-OutOfMemory-clause-writes
returns-in-OutOfMemory-clause-writes g c = search rules
