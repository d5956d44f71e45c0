use Rattle.std.proofs.Common.{◌≡◌, ◌+◌, ◌-◌, ◌++◌, ◌∙◌, [], false, length, get_or, ap, sym, arith, map}
use Rattle.std.proofs.lemmas.Result.{on_ok_weaker}
use Rattle.std.proofs.lemmas.List.{length-map}
use Rattle.view_texts.specs.declared.scales.Scale.{Scale}
use Rattle.view_texts.specs.Lines.{head_of, tail_of, seen_data}
use Rattle.view_texts.specs.Pieces.{value_pieces}
use Rattle.view_texts.proofs.TextPieces.{piece_in_line, tail_piece, length-line_pieces}
use Rattle.view_texts.proofs.json_line.JsonLinePieces.append_piece.Goals as goal

pub returns-then-at-count-clause-ok : goal.returns-then-at-count-clause-ok
returns-then-at-count-clause-ok g c =
    let line = c.args.self.now in
    let objects = λ (s : Scale). map (seen_data s.total s.width) (g.L.FlameBoxes.boxes line.boxes) in
    let tail = tail_of line.kind line.counts.now line.view.now line.scale.total line.scale.width in
    let piece = piece_in_line (head_of line.kind) tail (objects line.scale) c.args.at (c.args.at - 1) (omega (arith, c.if-at-eq0.false)) (omega (arith, c.if-at-eq0.false, c.if-at-count.true, length-map (g.L.FlameBoxes.boxes line.boxes) (seen_data line.scale.total line.scale.width))) in
    let text = λ (s : Scale). get_or (value_pieces false (objects s)) (c.args.at - 1) [] in
    on_ok_weaker c.append_item.result (λ e. e ∙ ap (λ t. c.args.out.now.items ++ t) (ap text c.of.ensures ∙ sym piece)) c.append_item.ensures.ok

pub returns-else-at-count-clause-ok : goal.returns-else-at-count-clause-ok
returns-else-at-count-clause-ok g c =
    let line = c.args.self.now in
    let values = map (seen_data line.scale.total line.scale.width) (g.L.FlameBoxes.boxes line.boxes) in
    let tail = tail_of line.kind line.counts.now line.view.now line.scale.total line.scale.width in
    let last : c.args.at ≡ length values + 1 = omega (arith, c.if-at-count.false, c.requires.there, length-line_pieces (head_of line.kind) tail values, length-map (g.L.FlameBoxes.boxes line.boxes) (seen_data line.scale.total line.scale.width)) in
    on_ok_weaker c.append_tail.result (λ e. e ∙ ap (λ text. c.args.out.now.items ++ text) (sym (tail_piece values (head_of line.kind) tail c.args.at last))) c.append_tail.ensures.ok
