use Rattle.std.proofs.Common.{◌∙◌, ap, sym}
use Rattle.command_line.proofs.ReadEntries.{pick_given}
use Rattle.run_options.specs.declared.choices.Pick.TheVariants.{Named}
use Rattle.command_line.proofs.entries.pick.Goals as goal

pub returns-in_ok-from_str-in-Some : goal.returns-in_ok-from_str-in-Some
returns-in_ok-from_str-in-Some c =
    ap Named c.in_ok-from_str-in-Some.ensures ∙ sym (pick_given c.args.entries.now _ c.in-Some.ensures)

pub returns-in-None : goal.returns-in-None
returns-in-None c = sym (pick_given c.args.entries.now _ c.in-None.ensures)
