use Rattle.std.proofs.Common.{◌<◌, map, subst, sym}
use Rattle.std.proofs.lemmas.Result.{IfOk-weaker}
use Rattle.stack_core.specs.Interleaving.{IsInterleaving}
use Rattle.merged_stacks.specs.Timeline.{samples_of}
use Rattle.ring_collect.specs.Collection.{AreGiven, seen_as_rest}
use Rattle.ring_collect.proofs.GivenRests.{given_count}
use Rattle.source_lists.proofs.FaultLemmas.{blamed}
use Rattle.source_lists.proofs.runners.Runner.run_in_order.Goals as goal

-- the gate never stops
pub returns-clause-given : goal.returns-clause-given
returns-clause-given g c =
    let answer = c.collect_rows.ensures.answer in
    IfOk-weaker c.collect_rows.result _ (λ run. AreGiven (λ reader. g.R.RowReader.gives reader) c.args.readers.items (map seen_as_rest run.lists.items))
    (λ run collects. subst (AreGiven (λ reader. g.R.RowReader.gives reader) c.args.readers.items) (sym (collects.whole (λ source index stops. stops))) answer.are_given) answer.holds.run

pub returns-clause-ordered : goal.returns-clause-ordered
returns-clause-ordered g c =
    IfOk-weaker c.collect_rows.result _ (λ run. IsInterleaving run.order.items (samples_of run.lists.items)) (λ run collects. collects.order) c.collect_rows.ensures.answer.holds.run

pub returns-clause-err : goal.returns-clause-err
returns-clause-err g c =
    let readers = c.args.readers.items in
    let answer = c.collect_rows.ensures.answer in
    let count = given_count (λ reader. g.R.RowReader.gives reader) readers answer.rests answer.are_given in
    blamed c.collect_rows.result _ (λ source fault. subst (λ count. source < count) count (answer.holds.unfinished source fault).below)
