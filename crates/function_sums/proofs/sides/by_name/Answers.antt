use Rattle.std.proofs.Common.{◌∙◌, ap, arith, refl}
use Rattle.std.proofs.lemmas.List.{take_all}
use Rattle.std.proofs.lemmas.Map.Text.{btree_map_updates_str}
use Rattle.function_sums.proofs.FoundWeights.{found_all, found_more, told_weights}
use Rattle.function_sums.proofs.sides.by_name.Goals as goal

pub loop-sum-preserved : goal.loop-sum-preserved
loop-sum-preserved c by samples are name =
    found_more samples c.args.sums.now c.loop-sum.sum-index c.sum-item.result c.get.result.now c.sum-item.result.own c.sum-item.result.total c.loop-sum.named c.insert.new.self name
    c.loop-sum-test.true c.sum-item.is are.each c.get.ensures refl refl
    (btree_map_updates_str c.get.result.now c.loop-sum.named c.insert.new.self _ c.in_ok-insert.ensures.updates name) (c.loop-sum.invariant by samples are name)

pub returns : goal.returns
returns c by samples are name =
    c.loop-sum.invariant by samples are name ∙ ap (told_weights samples name) (take_all c.loop-sum.sum-index c.args.sums.now (omega (arith, c.loop-sum-test.false))) ∙ found_all by samples c.args.sums.now name are
