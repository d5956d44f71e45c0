use Rattle.flame_layout.proofs.ChartLaws.{boxes_have_runs}
use Rattle.flame_layout.proofs.laws.boxes_have_runs.Goals as goal

pub returns : goal.returns
returns c = boxes_have_runs
