use Rattle.std.proofs.Common.{◌∙◌, ap, arith}
use Rattle.function_sums.specs.ChangeJson.{changes_line}
use Rattle.function_sums.specs.Told.{told_of}
use Rattle.function_sums.proofs.ChangePieces.{changes-text, length-changes_pieces, line_of_sides}
use Rattle.function_sums.proofs.change_lines.ChangeLine.of.Goals as goal

pub returns-clause-text : goal.returns-clause-text
returns-clause-text c =
    let whole = c.args.whole in
    let unit = c.args.telling.now.unit.now in
    changes-text unit whole.before whole.after c.first_changes-changes.result.now ∙ ap (changes_line unit whole.before whole.after) c.first_changes-changes.ensures.first

pub returns-clause-diff : goal.returns-clause-diff
returns-clause-diff c by before after are olds news =
    returns-clause-text c ∙ line_of_sides c.args.rows c.args.changes.now by before after are c.args.whole.before c.args.whole.after olds news (told_of c.args.telling.now)

pub returns-clause-few : goal.returns-clause-few
returns-clause-few c = omega (arith, c.first_changes-changes.ensures.few, length-changes_pieces c.args.telling.now.unit.now c.args.whole.before c.args.whole.after c.first_changes-changes.result.now)
