use Rattle.std.proofs.Common.{◌∙◌, sym}
use Rattle.command_line.proofs.ReadEntries.{format_given}
use Rattle.command_line.proofs.entries.format.Goals as goal

pub returns-in-Some : goal.returns-in-Some
returns-in-Some c = c.named.ensures ∙ sym (format_given c.args.entries.now _ c.in-Some.ensures).0

pub returns-in-None : goal.returns-in-None
returns-in-None c = sym (format_given c.args.entries.now _ c.in-None.ensures).0
