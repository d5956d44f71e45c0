use Rattle.std.proofs.Common.{◌∙◌, ◌++◌, ◌+◌, drop, map, ap, sym, refl, arith}
use Rattle.flame_layout.specs.Boxes.{compared_of, span_of}
use Rattle.flame_layout.specs.checked.Paired.{paired_boxes}
use Rattle.flame_layout.proofs.PairedRows.{boxes_all, boxes_more, boxes_same}
use Rattle.flame_layout.proofs.comparisons.pair_boxes.Goals as goal
use Rattle.flame_layout.proofs.comparisons.pair_boxes.Goals.{then-right-gt0+in_ok-push, else-right-gt0}

pub returns : goal.returns
returns g c = boxes_all c.args.before.now c.args.after.now _ (map compared_of c.loop-at.boxes.items) c.loop-at.at (omega (arith, c.min-at-end.ensures, c.len.ensures.count, c.len-2.ensures.count)) c.loop-at.invariant

pub loop-at-preserved : goal.loop-at-preserved
loop-at-preserved g c =
    let before = c.args.before.now in
    let after = c.args.after.now in
    let at = c.loop-at.at in
    let left = span_of c.get-left.result in
    let right = span_of c.get-right.result in
    elim c.if-right-gt0.branch [
      | then-right-gt0+in_ok-push w ↦
          boxes_more before after at left right (omega (arith, c.min-at-end.ensures, c.len.ensures.count, c.len-2.ensures.count)) (omega (arith, c.min-at-end.ensures, c.len.ensures.count, c.len-2.ensures.count)) c.get-left.ensures c.get-right.ensures
          _ c.loop-at.boxes.items c.if-right-gt0.boxes.items (record { drawn = c.get-right.result; total_before = c.get-left.result.weight }) c.loop-at.invariant refl w.if-right-gt0.true (ap (λ boxes. boxes.items) w.boxes-is ∙ w.in_ok-push.ensures.items)
      | else-right-gt0 w ↦
          boxes_same before after at left right (omega (arith, c.min-at-end.ensures, c.len.ensures.count, c.len-2.ensures.count)) (omega (arith, c.min-at-end.ensures, c.len.ensures.count, c.len-2.ensures.count)) c.get-left.ensures c.get-right.ensures
          _ (map compared_of c.loop-at.boxes.items) c.loop-at.invariant w.if-right-gt0.false
          ∙ ap (λ boxes. map compared_of boxes ++ paired_boxes (drop (at + 1) before) (drop (at + 1) after)) (sym (ap (λ boxes. boxes.items) w.boxes-is))
    ]
