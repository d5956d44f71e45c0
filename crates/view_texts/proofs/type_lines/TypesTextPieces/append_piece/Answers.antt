use Rattle.std.proofs.Common.{◌≡◌, ◌∙◌, ◌++◌, [], ap, arith, length, slice_index_or, sym}
use Rattle.std.proofs.lemmas.Result.{on_ok_weaker}
use Rattle.view_texts.specs.Types.{lines_from, type_lines}
use Rattle.view_texts.proofs.TypeLines.{length-lines_from}
use Rattle.view_texts.proofs.type_lines.TypesTextPieces.append_piece.Goals as goal

pub append_line_at-requires : goal.append_line_at-requires
append_line_at-requires c =
    let same : length (type_lines c.args.self.now.types.now) ≡ length c.get.result.now =
    length-lines_from c.args.self.now.types.now.default 0 c.args.self.now.types.now.types ∙ sym (ap length c.get.ensures) in
    omega (arith, same, c.requires.there)

pub returns-clause-ok : goal.returns-clause-ok
returns-clause-ok c =
    on_ok_weaker c.append_line_at.result
    (λ e. e ∙ ap (λ types. c.args.out.now.items ++ slice_index_or (lines_from c.args.self.now.types.now.default 0 types) c.args.at []) c.get.ensures)
    c.append_line_at.ensures.ok
