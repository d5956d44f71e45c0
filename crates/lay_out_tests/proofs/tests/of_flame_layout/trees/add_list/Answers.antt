use Rattle.std.proofs.Common.{◌≡◌, ◌<◌, ◌∙◌, [], length, arith}
use Rattle.sample_tables.specs.Rows.{sample_at}
use Rattle.call_tree.specs.CallTree.{with_weight}
use Rattle.flame_layout.proofs.Held.{holds-next, holds-room}
use Rattle.lay_out_tests.proofs.tests.of_flame_layout.trees.add_list.Goals as goal

pub add-requires : goal.add-requires
add-requires c =
    let room = holds-room c.loop-at.table c.loop-at.tree [] c.args.list.now.samples c.loop-at.at (omega (arith, c.len-at-end.ensures.count)) c.loop-at.invariant.held in
    omega (arith, room, c.weight.ensures.value, c.requires.room)

pub loop-at-preserved : goal.loop-at-preserved
loop-at-preserved c =
    let samples = c.args.list.now.samples in
    let at = c.loop-at.at in
    let s = sample_at samples at in
    let old = c.loop-at.table in
    let new = c.frame_numbers.new.table in
    let ids = c.in_ok-numbers.numbers.items in
    let numbers = c.in_ok-numbers.ensures in
    let within : at < length samples = omega (arith, c.len-at-end.ensures.count) in
    let added : c.add.new.self ≡ with_weight c.loop-at.tree ids s.weight = c.in_ok-add.ensures.ok ∙ (λ i. with_weight c.loop-at.tree (c.deref.ensures.value i) (c.weight.ensures.value i)) in
    record {
      held = holds-next old new c.loop-at.tree c.add.new.self [] samples at ids within c.loop-at.invariant.held numbers.grows added numbers.names numbers.known;
      distinct = numbers.distinct;
    }
