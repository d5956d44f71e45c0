use Rattle.svg_texts.proofs.PictureTags.{text-tags, text-rectangles}
use Rattle.svg_texts.proofs.laws.tags_are_of_drawn_boxes.Goals as goal

pub returns-clause-tags : goal.returns-clause-tags
returns-clause-tags c = text-tags

pub returns-clause-rectangles : goal.returns-clause-rectangles
returns-clause-rectangles c = text-rectangles
