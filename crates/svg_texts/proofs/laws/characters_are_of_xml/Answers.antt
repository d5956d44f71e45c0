use Rattle.svg_texts.proofs.PictureTags.{text-xml}
use Rattle.svg_texts.proofs.laws.characters_are_of_xml.Goals as goal

pub returns : goal.returns
returns c = text-xml
