use Rattle.std.proofs.Common.{◌∙◌, Some, ap, sym}
use Rattle.command_line.proofs.ReadEntries.{beside_given}
use Rattle.command_line.proofs.entries.beside_first.Goals as goal

pub returns-in_ok-picture_beside-in-Some : goal.returns-in_ok-picture_beside-in-Some
returns-in_ok-picture_beside-in-Some c =
    ap (λ t. Some t) (c.of.ensures ∙ c.in_ok-picture_beside-in-Some.ensures) ∙ sym (beside_given c.args.entries.now _ c.in-Some.ensures)

pub returns-in-None : goal.returns-in-None
returns-in-None c = sym (beside_given c.args.entries.now _ c.in-None.ensures)
