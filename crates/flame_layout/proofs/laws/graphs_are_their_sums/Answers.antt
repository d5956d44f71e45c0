use Rattle.flame_layout.proofs.Sums.{same_graph, same_sums}
use Rattle.flame_layout.proofs.laws.graphs_are_their_sums.Goals as goal

pub returns : goal.returns
returns c one other h = same_graph one other (same_sums one other h)
