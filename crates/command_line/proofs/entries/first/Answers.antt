use Rattle.std.proofs.Common.{◌∙◌, Some, ap, sym}
use Rattle.command_line.proofs.ReadEntries.{first_given}
use Rattle.command_line.proofs.entries.first.Goals as goal

pub returns-in_ok-from_str-in-Some : goal.returns-in_ok-from_str-in-Some
returns-in_ok-from_str-in-Some c = ap (λ t. Some t) c.in_ok-from_str-in-Some.ensures ∙ sym (first_given c.args.entries.now c.args.id.now _ c.in-Some.ensures)

pub returns-in-None : goal.returns-in-None
returns-in-None c = sym (first_given c.args.entries.now c.args.id.now _ c.in-None.ensures)
