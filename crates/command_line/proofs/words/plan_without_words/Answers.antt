use Rattle.std.proofs.Common.{rules}
use Rattle.command_line.proofs.words.plan_without_words.Goals as goal

pub returns-clause-plan : goal.returns-clause-plan
returns-clause-plan c = search rules
