use Rattle.std.proofs.Common.{take, get_or, sym, subst, arith}
use Rattle.std.proofs.lemmas.List.{take_more, take_all}
use Rattle.call_tree.specs.Listing.{AreIn}
use Rattle.call_tree.proofs.NameOrder.{AreIn_push}
use Rattle.tree_tests.proofs.tests.listings.are_known.Goals as goal

pub loop-id-preserved : goal.loop-id-preserved
loop-id-preserved g c =
    subst (AreIn c.args.table.now) (sym (take_more c.args.ids.now c.loop-id.id-index 0 (omega arith)))
    (AreIn_push c.args.table.now (take c.loop-id.id-index c.args.ids.now) (get_or c.args.ids.now c.loop-id.id-index 0) c.loop-id.invariant (omega arith))

pub returns : goal.returns
returns g c = subst (AreIn c.args.table.now) (take_all c.loop-id.id-index c.args.ids.now c.loop-id-test.false) c.loop-id.invariant
