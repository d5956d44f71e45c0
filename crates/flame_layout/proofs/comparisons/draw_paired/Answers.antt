use Rattle.std.proofs.Common.{◌≡◌, ◌∙◌, ap, arith, map, refl}
use Rattle.std.proofs.lemmas.List.{length-map}
use Rattle.std.proofs.lemmas.Result.{IfOk-weaker}
use Rattle.merged_stacks.specs.declared.paired_sides.Side.TheVariants.{Before, After}
use Rattle.merged_stacks.specs.Timeline.{total_weight}
use Rattle.merged_stacks.specs.Paired.{side_samples}
use Rattle.flame_layout.specs.Boxes.{compared_of}
use Rattle.flame_layout.specs.Chart.{chart_of}
use Rattle.flame_layout.specs.Comparison.{compared_boxes_of}
use Rattle.flame_layout.specs.checked.Paired.{paired_boxes}
use Rattle.flame_layout.proofs.ComparedBoxes.{compared-within, compared-positive}
use Rattle.flame_layout.proofs.DrawnBoxes.{pairs_within}
use Rattle.flame_layout.proofs.Sides.{before_weight, after_weight, compared_drawn}
use Rattle.flame_layout.proofs.comparisons.draw_paired.Goals as goal

pub draw_all-requires : goal.draw_all-requires
draw_all-requires c =
    let before = c.args.before.now.samples in
    let after = c.args.after.now.samples in
    let weight = ap (λ stacks. total_weight (side_samples Before stacks)) c.requires.stacks ∙ before_weight before after in
    omega (arith, weight, c.total.ensures, c.requires.before)

pub draw_all-requires-2 : goal.draw_all-requires-2
draw_all-requires-2 c =
    let before = c.args.before.now.samples in
    let after = c.args.after.now.samples in
    let weight = ap (λ stacks. total_weight (side_samples After stacks)) c.requires.stacks ∙ after_weight before after in
    omega (arith, weight, c.total-2.ensures, c.requires.after)

pub returns-clause-boxes : goal.returns-clause-boxes
returns-clause-boxes c =
    let before = c.args.before.now.samples in
    let after = c.args.after.now.samples in
    let lefts = c.in_ok-left.ensures ∙ ap (λ stacks. chart_of (side_samples Before stacks)) c.requires.stacks in
    let rights = c.in_ok-right.ensures ∙ ap (λ stacks. chart_of (side_samples After stacks)) c.requires.stacks in
    IfOk-weaker c.pair_boxes.result (λ boxes. map compared_of boxes.items ≡ paired_boxes c.in_ok-left.left c.in_ok-right.right) (λ boxes. map compared_of boxes.items ≡ compared_boxes_of before after)
    (λ found e. e ∙ compared_drawn before after c.in_ok-left.left c.in_ok-right.right lefts rights) c.pair_boxes.ensures

pub returns-clause-within : goal.returns-clause-within
returns-clause-within c =
    let before = c.args.before.now.samples in
    let after = c.args.after.now.samples in
    IfOk-weaker c.pair_boxes.result _ _ (λ boxes e. pairs_within boxes.items (map compared_of boxes.items) (total_weight after) refl (compared-within (map compared_of boxes.items) before after e)) (returns-clause-boxes c)

pub returns-clause-positive : goal.returns-clause-positive
returns-clause-positive c =
    let before = c.args.before.now.samples in
    let after = c.args.after.now.samples in
    IfOk-weaker c.pair_boxes.result _ _ (λ boxes e some. compared-positive (map compared_of boxes.items) before after e (omega (arith, some, length-map boxes.items compared_of))) (returns-clause-boxes c)
