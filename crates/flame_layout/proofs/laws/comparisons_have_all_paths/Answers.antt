use Rattle.flame_layout.proofs.LawProofs.{compared_paths}
use Rattle.flame_layout.proofs.laws.comparisons_have_all_paths.Goals as goal

pub returns : goal.returns
returns c = compared_paths
