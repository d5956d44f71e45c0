use Rattle.std.proofs.Common.{◌+◌, ◌-◌, ◌++◌, ◌∙◌, sym, ap, arith, map}
use Rattle.std.specs.List.{concat}
use Rattle.byte_io.proofs.PieceTexts.{one_piece}
use Rattle.std.proofs.lemmas.List.{length-map}
use Rattle.view_texts.specs.Lines.{head_of, tail_of, seen_data}
use Rattle.view_texts.specs.Pieces.{line_pieces}
use Rattle.view_texts.proofs.TextPieces.{items_pieces, length-line_pieces}
use Rattle.view_texts.proofs.json_line.JsonLinePieces.append_some.Goals as goal

pub returns-then-at-eq0-clause-ok : goal.returns-then-at-eq0-clause-ok
returns-then-at-eq0-clause-ok g c =
    let line = c.args.self.now in
    let values = map (seen_data line.scale.total line.scale.width) (g.L.FlameBoxes.boxes line.boxes) in
    let tail = tail_of line.kind line.counts.now line.view.now line.scale.total line.scale.width in
    c.in_ok-append_piece.ensures.ok ∙ ap (λ text. c.args.out.now.items ++ text) (sym (one_piece (line_pieces (head_of line.kind) values tail) c.args.at c.requires.there))

pub overflow_add-result-2 : goal.overflow_add-result-2
overflow_add-result-2 g c =
    let line = c.args.self.now in
    let values = map (seen_data line.scale.total line.scale.width) (g.L.FlameBoxes.boxes line.boxes) in
    let tail = tail_of line.kind line.counts.now line.view.now line.scale.total line.scale.width in
    omega (arith, c.requires.few, c.end_of_some-end.ensures.most, length-line_pieces (head_of line.kind) tail values, length-map (g.L.FlameBoxes.boxes line.boxes) (seen_data line.scale.total line.scale.width))

pub returns-clause-ok : goal.returns-clause-ok
returns-clause-ok g c =
    let line = c.args.self.now in
    let values = map (seen_data line.scale.total line.scale.width) (g.L.FlameBoxes.boxes line.boxes) in
    let tail = tail_of line.kind line.counts.now line.view.now line.scale.total line.scale.width in
    let end = c.end_of_some-end.result in
    let some = items_pieces (head_of line.kind) tail values c.args.at (c.args.at - 1) end (end + 1) (omega (arith, c.if-at-eq0.false)) (omega arith) (omega (arith, c.if-at-eq0.false, c.end_of_some-end.ensures.least)) (omega (arith, c.end_of_some-end.ensures.most, length-map (g.L.FlameBoxes.boxes line.boxes) (seen_data line.scale.total line.scale.width))) in
    c.in_ok-append_items.ensures.ok ∙ ap (λ pieces. c.args.out.now.items ++ concat pieces) (sym some)

pub returns-clause-within : goal.returns-clause-within
returns-clause-within g c =
    let line = c.args.self.now in
    let values = map (seen_data line.scale.total line.scale.width) (g.L.FlameBoxes.boxes line.boxes) in
    let tail = tail_of line.kind line.counts.now line.view.now line.scale.total line.scale.width in
    omega (arith, c.end_of_some-end.ensures.most, length-line_pieces (head_of line.kind) tail values, length-map (g.L.FlameBoxes.boxes line.boxes) (seen_data line.scale.total line.scale.width))
