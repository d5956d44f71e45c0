use Rattle.std.proofs.Common.{◌∙◌, ap, length}
use Rattle.std.proofs.lemmas.Result.{IfOk-weaker}
use Rattle.function_sums.specs.ChangeTable.{changes_table}
use Rattle.function_sums.specs.Told.{told_of}
use Rattle.function_sums.proofs.ChangePieces.{table_of_sides}
use Rattle.function_sums.proofs.TextPieces.{joined}
use Rattle.function_sums.proofs.text_tables.Table.of_changes.Goals as goal

pub returns-clause-text : goal.returns-clause-text
unfolding changes_table
returns-clause-text c =
    let told = told_of c.args.telling.now in
    IfOk-weaker c.of.result _ _ (λ table is. is ∙ joined _ c.in_ok-heading.ensures c.functions-shown.ensures (c.in_ok-lines.ensures c.args.is_exact told.unit)
    ∙ ap (changes_table c.args.is_exact told (length c.args.changes.now) c.args.whole.before c.args.whole.after) c.first_changes-first.ensures.first) c.of.ensures.text

pub returns-clause-diff : goal.returns-clause-diff
returns-clause-diff c by before after are olds news =
    IfOk-weaker c.of.result _ _ (λ table is. is ∙ table_of_sides c.args.rows c.args.changes.now by before after are c.args.whole.before c.args.whole.after olds news c.args.is_exact (told_of c.args.telling.now)) (returns-clause-text c)
