use Rattle.std.proofs.Common.{arith}
use Rattle.ranked_rows.proofs.WeighingRows.{weighing_more}
use Rattle.ranked_rows.proofs.rows.weighing_rows.Goals as goal

pub loop-at-preserved : goal.loop-at-preserved
loop-at-preserved c =
    weighing_more c.args.spans.now c.args.weights.now c.loop-at.at _ _ c.loop-at.rows.items c.push_weighing.new.rows.items
    (omega arith) (omega (arith, c.requires)) c.in_ok-push_weighing.ensures c.loop-at.invariant
