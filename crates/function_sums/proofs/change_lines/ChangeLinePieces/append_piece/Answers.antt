use Rattle.std.proofs.Common.{◌≡◌, ◌+◌, ◌-◌, ◌++◌, ◌∙◌, codes, length, ap, map, sym, arith}
use Rattle.std.proofs.lemmas.List.{length-map}
use Rattle.std.proofs.lemmas.Result.{on_ok_weaker}
use Rattle.view_texts.proofs.TextPieces.{box_piece, tail_piece}
use Rattle.function_sums.specs.ChangeJson.{change_data}
use Rattle.function_sums.specs.Pieces.{changes_tail}
use Rattle.function_sums.proofs.ChangePieces.{length-changes_pieces}
use Rattle.function_sums.proofs.change_lines.ChangeLinePieces.append_piece.Goals as goal

pub returns-then-at-self-clause-ok : goal.returns-then-at-self-clause-ok
returns-then-at-self-clause-ok c =
    let line = c.args.self.now in
    let tail = changes_tail line.unit.now line.whole.before line.whole.after in
    let piece = box_piece change_data line.changes.now (codes "{\"functions\":[") tail c.args.at (c.args.at - 1) c.index-self-place.result (omega (arith, c.if-at-eq0.false)) (omega (arith, c.if-at-eq0.false, c.if-at-self.true)) in
    on_ok_weaker c.append_function.result (λ e. e ∙ ap (λ text. c.args.out.now.items ++ text) (sym piece)) c.append_function.ensures.ok

pub returns-else-at-self-clause-ok : goal.returns-else-at-self-clause-ok
returns-else-at-self-clause-ok c =
    let line = c.args.self.now in
    let values = map change_data line.changes.now in
    let tail = changes_tail line.unit.now line.whole.before line.whole.after in
    let last : c.args.at ≡ length values + 1 = omega (arith, c.if-at-self.false, c.requires.there, length-changes_pieces line.unit.now line.whole.before line.whole.after line.changes.now, length-map line.changes.now change_data) in
    on_ok_weaker c.append_tail.result (λ e. e ∙ ap (λ text. c.args.out.now.items ++ text) (sym (tail_piece values (codes "{\"functions\":[") tail c.args.at last))) c.append_tail.ensures.ok
