-- The tree so far has numbers of told names, and is no deeper than a stack.
use Rattle.call_tree.specs.Listing.{HasNumbersOf}
use Rattle.bench_tree.specs.Depth.{IsShallow}
use Rattle.bench_tree.proofs.growing.grow.Given as goal

abbrev pub invariant-loop-at : goal.invariant-loop-at
invariant-loop-at l = record {
  numbers : HasNumbersOf l.fn.list.told l.tree;
  depth : IsShallow l.tree;
}
