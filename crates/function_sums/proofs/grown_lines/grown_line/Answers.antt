use Rattle.std.proofs.Common.{◌∙◌, ◌<◌, length, rules}
use Rattle.std.proofs.lemmas.Result.{IfOk-weaker}
use Rattle.function_sums.proofs.JoinedNames.{named_line}
use Rattle.function_sums.proofs.grown_lines.grown_line.Goals as goal

pub returns-else-is_empty : goal.returns-else-is_empty
returns-else-is_empty c =
    let some : 0 < length c.args.names.now = search rules in
    IfOk-weaker c.line_of.result _ _ (λ line is. is ∙ named_line (λ name. name.now) c.args.points c.args.names.now some) c.line_of.ensures
