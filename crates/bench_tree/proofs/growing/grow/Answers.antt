use Rattle.std.proofs.Common.{sym, subst}
use Rattle.call_tree.specs.Listing.{HasNumbersOf}
use Rattle.call_tree.proofs.Numbers.{HasNumbersOf-empty}
use Rattle.bench_tree.specs.Depth.{IsShallow}
use Rattle.bench_tree.proofs.GrowLemmas.{shallow-empty}
use Rattle.bench_tree.proofs.growing.grow.Goals as goal

pub loop-at-init : goal.loop-at-init
loop-at-init c = record {
  numbers = subst (HasNumbersOf c.args.list.now.told) (sym c.in_ok-tree.ensures) (HasNumbersOf-empty c.args.list.now.told);
  depth = subst IsShallow (sym c.in_ok-tree.ensures) shallow-empty;
}
