use Rattle.flame_layout.proofs.Held.{holds-empty}
use Rattle.lay_out_tests.proofs.tests.of_flame_layout.trees.placed_graph.Goals as goal

pub placed_in-requires-clause-empty : goal.placed_in-requires-clause-empty
placed_in-requires-clause-empty g c = holds-empty c.new-table.result c.in_ok-tree.tree c.in_ok-tree.ensures
