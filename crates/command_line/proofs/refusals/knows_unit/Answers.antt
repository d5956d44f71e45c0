use Rattle.std.proofs.Common.{◌∙◌, ap, is_some, sym}
use Rattle.command_line.proofs.ReadEntries.{unit_given}
use Rattle.command_line.proofs.refusals.knows_unit.Goals as goal

pub returns-in-Some : goal.returns-in-Some
returns-in-Some c = c.is_some.ensures ∙ ap is_some c.named.ensures ∙ sym (unit_given c.args.entries.now _ c.in-Some.ensures).1

pub returns-in-None : goal.returns-in-None
returns-in-None c = sym (unit_given c.args.entries.now _ c.in-None.ensures).1
