use Rattle.svg_texts.proofs.DrawnBoxes.{parts_count, parts_weigh}
use Rattle.svg_texts.proofs.laws.others_are_left_out.Goals as goal

pub returns-clause-counts : goal.returns-clause-counts
returns-clause-counts c = parts_count

pub returns-clause-weights : goal.returns-clause-weights
returns-clause-weights c = parts_weigh
