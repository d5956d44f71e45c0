use Rattle.std.proofs.Common.{◌+◌, ◌∙◌, ap, map}
use Rattle.std.proofs.lemmas.List.{length-map}
use Rattle.view_texts.specs.Lines.{head_of, tail_of, seen_data}
use Rattle.view_texts.proofs.JsonFrames.{line-text}
use Rattle.view_texts.proofs.TextPieces.{length-line_pieces}
use Rattle.view_texts.proofs.json_line.JsonLine.of.Goals as goal

pub returns-clause-text : goal.returns-clause-text
returns-clause-text g c =
    let scale = c.args.scale in
    line-text c.args.kind c.args.counts.now c.args.view.now scale.total scale.width (map (seen_data scale.total scale.width) (g.L.FlameBoxes.boxes c.args.boxes))

pub returns-clause-count : goal.returns-clause-count
returns-clause-count g c =
    let scale = c.args.scale in
    length-line_pieces (head_of c.args.kind) (tail_of c.args.kind c.args.counts.now c.args.view.now scale.total scale.width) (map (seen_data scale.total scale.width) (g.L.FlameBoxes.boxes c.args.boxes))
    ∙ ap (λ n. n + 2) (length-map (g.L.FlameBoxes.boxes c.args.boxes) (seen_data scale.total scale.width))
