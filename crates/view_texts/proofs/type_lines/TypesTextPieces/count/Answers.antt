use Rattle.std.proofs.Common.{◌∙◌, ap, length, sym}
use Rattle.view_texts.proofs.TypeLines.{length-lines_from}
use Rattle.view_texts.proofs.type_lines.TypesTextPieces.count.Goals as goal

pub returns : goal.returns
returns c =
    c.count.ensures.count ∙ ap length c.get.ensures ∙ sym (length-lines_from c.args.self.now.types.now.default 0 c.args.self.now.types.now.types)
