use Rattle.svg_texts.specs.Drawn.{picture_of}
use Rattle.svg_texts.proofs.PicturePieces.{pieces_text}
use Rattle.svg_texts.proofs.svg.Svg.of.Goals as goal

pub returns-clause-text : goal.returns-clause-text
returns-clause-text g c = pieces_text (picture_of c.args.picture.now) c.tally_of-tally.result (g.L.FlameBoxes.boxes c.args.boxes) c.tally_of-tally.ensures
