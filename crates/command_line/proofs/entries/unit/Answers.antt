use Rattle.std.proofs.Common.{◌∙◌, sym}
use Rattle.command_line.proofs.ReadEntries.{unit_given}
use Rattle.command_line.proofs.entries.unit.Goals as goal

pub returns-in-Some : goal.returns-in-Some
returns-in-Some c = c.named.ensures ∙ sym (unit_given c.args.entries.now _ c.in-Some.ensures).0

pub returns-in-None : goal.returns-in-None
returns-in-None c = sym (unit_given c.args.entries.now _ c.in-None.ensures).0
