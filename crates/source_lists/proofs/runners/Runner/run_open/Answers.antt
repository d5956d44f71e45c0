use Rattle.std.proofs.Common.{Bool, false, true, map, subst, sym}
use Rattle.std.specs.Prelude.{IfOk}
use Rattle.std.proofs.lemmas.Result.{IfOk-weaker}
use Rattle.ring_collect.specs.Collection.{seen_as_rest}
use Rattle.source_lists.specs.checked.SummedRuns.{FindsGiven}
use Rattle.source_lists.proofs.FoundRests.{given_in_order, given_summed}
use Rattle.source_lists.proofs.runners.Runner.run_open.Goals as goal

pub returns-in_ok-summed-clause-given : goal.returns-in_ok-summed-clause-given
returns-in_ok-summed-clause-given g c =
    let readers = c.args.readers.items in
    subst (λ (is_summed : Bool). IfOk c.run_in_order.result (λ run. FindsGiven (λ reader. g.R.RowReader.gives reader) is_summed readers (map seen_as_rest run.lists.items))) (sym c.if-self.true)
    (IfOk-weaker c.run_in_order.result _ (λ run. FindsGiven (λ reader. g.R.RowReader.gives reader) true readers (map seen_as_rest run.lists.items))
    (λ run given. given_summed (λ reader. g.R.RowReader.gives reader) _ readers c.in_ok-summed.summed.items (map seen_as_rest run.lists.items) c.in_ok-summed.ensures.sums given) c.run_in_order.ensures.given)

pub returns-else-self-clause-given : goal.returns-else-self-clause-given
returns-else-self-clause-given g c =
    let readers = c.args.readers.items in
    subst (λ (is_summed : Bool). IfOk c.run_in_order-else-self.result (λ run. FindsGiven (λ reader. g.R.RowReader.gives reader) is_summed readers (map seen_as_rest run.lists.items))) (sym c.if-self.false)
    (IfOk-weaker c.run_in_order-else-self.result _ (λ run. FindsGiven (λ reader. g.R.RowReader.gives reader) false readers (map seen_as_rest run.lists.items))
    (λ run given. given_in_order (λ reader. g.R.RowReader.gives reader) readers (map seen_as_rest run.lists.items) given) c.run_in_order-else-self.ensures.given)
