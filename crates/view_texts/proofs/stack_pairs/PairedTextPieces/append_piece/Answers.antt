use Rattle.std.proofs.Common.{◌++◌, ◌∙◌, ap, sym, arith}
use Rattle.std.proofs.lemmas.Result.{on_ok_weaker}
use Rattle.std.proofs.lemmas.List.{length-map}
use Rattle.view_texts.proofs.TextPieces.{pair_line_at, pair_line-at}
use Rattle.view_texts.proofs.stack_pairs.PairedTextPieces.append_piece.Goals as goal

pub returns-clause-ok : goal.returns-clause-ok
returns-clause-ok c =
    on_ok_weaker c.append_pair.result
    (λ e. e ∙ ap (λ text. c.args.out.now.items ++ text) (sym (pair_line-at c.args.self.now.stacks.now c.args.at (omega (arith, c.requires.there, length-map c.args.self.now.stacks.now pair_line_at)))))
    c.append_pair.ensures.ok
