use Rattle.std.proofs.Common.{sym}
use Rattle.function_sums.specs.Told.{told_of}
use Rattle.function_sums.proofs.TextPieces.{length-functions_pieces}
use Rattle.function_sums.proofs.sum_lines.SumLinePieces.count.Goals as goal

pub returns : goal.returns
returns c = sym (length-functions_pieces c.args.self.now.side (told_of c.args.self.now.telling) c.args.self.now.whole c.args.self.now.sums.now)
