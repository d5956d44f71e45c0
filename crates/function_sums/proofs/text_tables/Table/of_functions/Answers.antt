use Rattle.std.proofs.Common.{◌∙◌, ◌++◌, Some, ap, length, refl}
use Rattle.std.proofs.lemmas.Result.{IfOk-weaker}
use Rattle.function_sums.specs.FunctionTable.{function_lines, functions_table}
use Rattle.function_sums.specs.Told.{told_of}
use Rattle.function_sums.proofs.TextPieces.{joined}
use Rattle.function_sums.proofs.TopTexts.{table_of_samples}
use Rattle.function_sums.proofs.text_tables.Table.of_functions.Goals as goal

pub returns-clause-text : goal.returns-clause-text
unfolding functions_table
returns-clause-text c =
    let told = told_of c.args.telling.now in
    let is_exact = c.args.is_exact in
    let whole = c.args.whole in
    let wanted = function_lines is_exact told whole (Some 0) c.first_sums-first.result.now in
    let lines = c.in_ok-add_lines.ensures is_exact told refl ∙ ap (λ lines. lines ++ wanted) (c.in_ok-lines.ensures is_exact told.unit) in
    IfOk-weaker c.of.result _ _ (λ table is. is ∙ joined _ c.in_ok-heading.ensures c.functions-shown.ensures lines
    ∙ ap (functions_table is_exact told (length c.args.sums.now) whole) c.first_sums-first.ensures.first) c.of.ensures.text

pub returns-clause-top : goal.returns-clause-top
returns-clause-top c by samples are weight =
    IfOk-weaker c.of.result _ _ (λ table is. is ∙ table_of_samples (told_of c.args.telling.now) c.args.rows c.args.whole c.args.sums.now by samples are weight c.args.is_exact) (returns-clause-text c)
