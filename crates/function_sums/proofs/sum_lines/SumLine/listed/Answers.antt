use Rattle.std.proofs.Common.{arith}
use Rattle.function_sums.specs.Told.{told_of}
use Rattle.function_sums.proofs.TextPieces.{functions-text, length-functions_pieces}
use Rattle.function_sums.proofs.sum_lines.SumLine.listed.Goals as goal

pub returns-clause-text : goal.returns-clause-text
returns-clause-text c = functions-text c.args.side (told_of c.args.telling.now) c.args.whole c.args.sums.now

pub returns-clause-few : goal.returns-clause-few
returns-clause-few c = omega (arith, c.requires, length-functions_pieces c.args.side (told_of c.args.telling.now) c.args.whole c.args.sums.now)
