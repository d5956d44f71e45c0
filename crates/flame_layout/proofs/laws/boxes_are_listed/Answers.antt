use Rattle.flame_layout.proofs.Geometry.{chart-listed}
use Rattle.flame_layout.proofs.LawProofs.{each_from_all}
use Rattle.flame_layout.proofs.laws.boxes_are_listed.Goals as goal
use Rattle.std.proofs.Common.{◌<◌}

pub returns : goal.returns
returns c samples positive = chart-listed samples (each_from_all (λ s. 0 < s.weight) samples positive)
