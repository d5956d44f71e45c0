use Rattle.std.proofs.Common.{sym}
use Rattle.function_sums.proofs.ChangePieces.{length-changes_pieces}
use Rattle.function_sums.proofs.change_lines.ChangeLinePieces.count.Goals as goal

pub returns : goal.returns
returns c = sym (length-changes_pieces c.args.self.now.unit.now c.args.self.now.whole.before c.args.self.now.whole.after c.args.self.now.changes.now)
