use Rattle.page_texts.proofs.BoxReading.{boxes_are_read, drawings_are_read}
use Rattle.page_texts.proofs.laws.boxes_read_back.Goals as goal

pub returns-clause-boxes : goal.returns-clause-boxes
returns-clause-boxes c = boxes_are_read

pub returns-clause-drawings : goal.returns-clause-drawings
returns-clause-drawings c = drawings_are_read
