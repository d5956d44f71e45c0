use Rattle.flame_layout.proofs.Geometry.{lies_inside}
use Rattle.flame_layout.proofs.laws.boxes_lie_inside.Goals as goal

pub returns : goal.returns
returns c = lies_inside
