use Rattle.std.proofs.Common.{◌++◌, ◌∙◌, ap}
use Rattle.std.proofs.lemmas.Result.{on_ok_weaker}
use Rattle.byte_io.proofs.PieceTexts.{one_piece}
use Rattle.merged_stacks.specs.RankedStacks.{ranked_samples}
use Rattle.view_texts.specs.Pieces.{stack_lines}
use Rattle.view_texts.proofs.merged_lines.FoldedTextPieces.append_piece.Goals as goal

pub returns-clause-ok : goal.returns-clause-ok
returns-clause-ok c =
    let one = one_piece (stack_lines (ranked_samples c.args.self.now.merged.now)) c.args.at c.requires.there in
    on_ok_weaker c.append_lines.result (λ e. e ∙ ap (λ text. c.args.out.now.items ++ text) one) c.append_lines.ensures.ok
