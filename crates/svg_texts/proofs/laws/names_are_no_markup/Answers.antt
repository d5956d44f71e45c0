use Rattle.svg_texts.proofs.Inert.{inert-xml, inert-shown}
use Rattle.svg_texts.proofs.PictureTags.{inert-tip, inert-written, inert-foot}
use Rattle.svg_texts.proofs.laws.names_are_no_markup.Goals as goal

pub returns-clause-texts : goal.returns-clause-texts
returns-clause-texts c = inert-xml

pub returns-clause-shown : goal.returns-clause-shown
returns-clause-shown c = inert-shown

pub returns-clause-tips : goal.returns-clause-tips
returns-clause-tips c = inert-tip

pub returns-clause-labels : goal.returns-clause-labels
returns-clause-labels c = inert-written

pub returns-clause-feet : goal.returns-clause-feet
returns-clause-feet c = inert-foot
