use Rattle.flame_layout.proofs.LawProofs.{one_box_a_path}
use Rattle.flame_layout.proofs.laws.graphs_have_one_box_a_path.Goals as goal

pub returns : goal.returns
returns c = one_box_a_path
