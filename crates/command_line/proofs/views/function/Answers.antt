use Rattle.std.proofs.Common.{sym}
use Rattle.command_line.proofs.ReadEntries.{function_given}
use Rattle.command_line.proofs.views.function.Goals as goal

pub returns-in-Some : goal.returns-in-Some
returns-in-Some c = sym (function_given c.args.entries.now _ c.in-Some.ensures)

pub returns-in-None : goal.returns-in-None
returns-in-None c = sym (function_given c.args.entries.now _ c.in-None.ensures)
