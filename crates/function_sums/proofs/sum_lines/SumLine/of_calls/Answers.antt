use Rattle.std.proofs.Common.{◌∙◌, Some, add-one, take}
use Rattle.function_sums.specs.Calls.{calls_of}
use Rattle.function_sums.specs.FunctionSums.{sums_of}
use Rattle.function_sums.specs.FunctionJson.{functions_line}
use Rattle.function_sums.specs.Told.{told_of}
use Rattle.function_sums.proofs.sum_lines.SumLine.of_calls.Goals as goal

pub returns-clause-text : goal.returns-clause-text
returns-clause-text c function calls is =
    let line = functions_line (Some c.args.side) (told_of c.args.telling.now) in
    c.listed.ensures.text ∙ (λ i. line (c.total_of_first.ensures function calls is i) (c.with_first-shown.ensures.first i))
    ∙ (λ i. line function.total (take (add-one c.args.rows i) (is i)))

pub returns-clause-calls : goal.returns-clause-calls
returns-clause-calls c name samples is = returns-clause-text c (sums_of samples name) (calls_of c.args.side name samples) is
