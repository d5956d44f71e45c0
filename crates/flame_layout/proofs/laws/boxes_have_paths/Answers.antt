use Rattle.flame_layout.proofs.InStep.{chart-step}
use Rattle.flame_layout.proofs.laws.boxes_have_paths.Goals as goal

pub returns : goal.returns
returns c = chart-step
