use Rattle.flame_layout.proofs.ChartLaws.{runs_have_boxes}
use Rattle.flame_layout.proofs.laws.runs_have_boxes.Goals as goal

pub returns : goal.returns
returns c = runs_have_boxes
