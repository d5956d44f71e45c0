use Rattle.std.proofs.Common.{sym, subst}
use Rattle.call_tree.specs.Listing.{HasNumbersOf}
use Rattle.call_tree.proofs.Numbers.{HasNumbersOf-with_weight}
use Rattle.tree_tests.proofs.tests.listings.add_known.Goals as goal

pub returns-in_err-add : goal.returns-in_err-add
returns-in_err-add g c = subst (HasNumbersOf c.args.table.now) (sym c.in_err-add.ensures.err) c.loop-ids.invariant

pub loop-ids-preserved : goal.loop-ids-preserved
loop-ids-preserved g c =
    subst (HasNumbersOf c.args.table.now) (sym c.in_ok-add.ensures.ok)
    (HasNumbersOf-with_weight c.args.table.now c.loop-ids.tree _ _ c.loop-ids.invariant c.are_known.ensures)
