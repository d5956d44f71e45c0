use Rattle.std.proofs.Common.{[], arith}
use Rattle.flame_layout.proofs.Held.{holds-small, holds-depth, holds-numbers}
use Rattle.lay_out_tests.proofs.tests.of_flame_layout.trees.placed_tree.Goals as goal

pub graph_boxes-requires-clause-total : goal.graph_boxes-requires-clause-total
graph_boxes-requires-clause-total c =
    omega (arith, (holds-small c.args.table.now c.args.tree.now c.args.source.now.samples c.requires.held []).0, c.requires.light)

pub graph_boxes-requires-clause-depth : goal.graph_boxes-requires-clause-depth
graph_boxes-requires-clause-depth c =
    holds-depth c.args.table.now c.args.tree.now c.args.source.now.samples c.requires.held 4096 (λ k d l. (c.len-count.ensures.limits k d l).depth)

pub graph_boxes-requires-clause-numbers : goal.graph_boxes-requires-clause-numbers
graph_boxes-requires-clause-numbers c = holds-numbers c.args.table.now c.args.tree.now c.args.source.now.samples c.requires.held

pub place-requires-clause-within : goal.place-requires-clause-within
place-requires-clause-within c k d h =
    omega (arith, c.in_ok-boxes.ensures.within k d h, (holds-small c.args.table.now c.args.tree.now c.args.source.now.samples c.requires.held []).0, c.total-total.ensures)

pub place-requires-clause-positive : goal.place-requires-clause-positive
place-requires-clause-positive c h =
    omega (arith, c.in_ok-boxes.ensures.positive h, (holds-small c.args.table.now c.args.tree.now c.args.source.now.samples c.requires.held []).0, c.total-total.ensures)
