use Rattle.std.proofs.Common.{ap, arith}
use Rattle.std.proofs.lemmas.List.{take_all}
use Rattle.merged_stacks.specs.Timeline.{total_weight, timeline, samples_of}
use Rattle.merged_stacks.proofs.JoinedStacks.{all_weight}
use Rattle.merged_stacks.proofs.Timelines.{timeline_weight, timeline_weight-take}
use Rattle.write_tests.proofs.tests.sources.are_light.Goals as goal

pub loop-list-preserved : goal.loop-list-preserved
loop-list-preserved c =
    let more = timeline_weight-take c.args.lists.now c.loop-list.list-index c.list-item.result c.loop-list-test.true c.list-item.is in
    omega (arith, more, c.total-weight.ensures, c.if-weight-room.false, c.loop-list.invariant)

pub returns-clause-merged : goal.returns-clause-merged
returns-clause-merged c _ =
    let lists = c.args.lists.now in
    let all = ap (λ front. total_weight (timeline (samples_of front))) (take_all c.loop-list.list-index lists c.loop-list-test.false) in
    omega (arith, all, timeline_weight lists, all_weight lists, c.loop-list.invariant)

pub returns-clause-drawn : goal.returns-clause-drawn
returns-clause-drawn c _ =
    let lists = c.args.lists.now in
    let all = ap (λ front. total_weight (timeline (samples_of front))) (take_all c.loop-list.list-index lists c.loop-list-test.false) in
    omega (arith, all, c.loop-list.invariant)
