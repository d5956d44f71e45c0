use Rattle.std.proofs.Common.{◌+◌, ◌∙◌, ap, sym, arith, map}
use Rattle.std.proofs.lemmas.List.{length-map}
use Rattle.view_texts.specs.Lines.{head_of, tail_of, seen_data}
use Rattle.view_texts.proofs.TextPieces.{length-line_pieces}
use Rattle.view_texts.proofs.json_line.JsonLinePieces.count.Goals as goal

pub overflow_add-result : goal.overflow_add-result
overflow_add-result g c =
    let line = c.args.self.now in
    let scale = line.scale in
    let values = map (seen_data scale.total scale.width) (g.L.FlameBoxes.boxes line.boxes) in
    omega (arith, c.requires, length-line_pieces (head_of line.kind) (tail_of line.kind line.counts.now line.view.now scale.total scale.width) values, length-map (g.L.FlameBoxes.boxes line.boxes) (seen_data scale.total scale.width))

pub returns : goal.returns
returns g c =
    let line = c.args.self.now in
    let scale = line.scale in
    let values = map (seen_data scale.total scale.width) (g.L.FlameBoxes.boxes line.boxes) in
    ap (λ n. n + 2) (c.count.ensures.is ∙ sym (length-map (g.L.FlameBoxes.boxes line.boxes) (seen_data scale.total scale.width)))
    ∙ sym (length-line_pieces (head_of line.kind) (tail_of line.kind line.counts.now line.view.now scale.total scale.width) values)
