use Rattle.std.proofs.Common.{◌∙◌, None, ap}
use Rattle.function_sums.specs.FunctionJson.{functions_line}
use Rattle.function_sums.specs.Told.{told_of}
use Rattle.function_sums.proofs.TopTexts.{line_of_samples}
use Rattle.function_sums.proofs.sum_lines.SumLine.of.Goals as goal

pub returns-clause-text : goal.returns-clause-text
returns-clause-text c = c.listed.ensures.text ∙ ap (functions_line None (told_of c.args.telling.now) c.args.whole) c.first_sums.ensures.first

pub returns-clause-top : goal.returns-clause-top
returns-clause-top c by samples are weight = returns-clause-text c ∙ line_of_samples (told_of c.args.telling.now) c.args.rows c.args.whole c.args.sums.now by samples are weight
