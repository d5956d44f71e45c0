use Rattle.flame_layout.proofs.Geometry.{chart-apart}
use Rattle.flame_layout.proofs.laws.boxes_stand_apart.Goals as goal

pub returns : goal.returns
returns c = chart-apart
