use Rattle.std.proofs.Common.{◌+◌, arith}
use Rattle.merged_stacks.proofs.Timelines.{timeline_weight-take, timeline_weight-all}
use Rattle.merged_stacks.proofs.totals.total_weight.Goals as goal

pub overflow_cast-total : goal.overflow_cast-total
overflow_cast-total c =
    let more = timeline_weight-take c.args.lists.now c.loop-list.list-index c.list-item.result c.loop-list-test.true c.list-item.is in
    let all = timeline_weight-all c.args.lists.now (c.loop-list.list-index + 1) in
    omega (arith, more, all, c.requires, c.total.ensures, c.loop-list.invariant)

pub overflow_add-total : goal.overflow_add-total
overflow_add-total c =
    let more = timeline_weight-take c.args.lists.now c.loop-list.list-index c.list-item.result c.loop-list-test.true c.list-item.is in
    let all = timeline_weight-all c.args.lists.now (c.loop-list.list-index + 1) in
    omega (arith, more, all, c.requires, c.total.ensures, c.loop-list.invariant)

pub loop-list-preserved : goal.loop-list-preserved
loop-list-preserved c =
    let more = timeline_weight-take c.args.lists.now c.loop-list.list-index c.list-item.result c.loop-list-test.true c.list-item.is in
    omega (arith, more, c.total.ensures, c.loop-list.invariant)
