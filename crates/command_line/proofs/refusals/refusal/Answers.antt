use Rattle.std.proofs.Common.{rules}
use Rattle.command_line.proofs.refusals.refusal.Goals as goal

pub returns-in-Ok-completed : goal.returns-in-Ok-completed
returns-in-Ok-completed c = search rules
