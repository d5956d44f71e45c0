use Rattle.flame_layout.proofs.Sums.{same_graph, same_sums}
use Rattle.flame_layout.proofs.LawProofs.{permuted_own}
use Rattle.flame_layout.proofs.laws.graphs_see_no_order.Goals as goal

pub returns : goal.returns
returns c one other h = same_graph one other (same_sums one other (permuted_own one other h))
