use Rattle.std.proofs.Common.{◌≡◌, [], ◌∙◌, ap, arith}
use Rattle.std.proofs.lemmas.Result.{IfOk-weaker}
use Rattle.merged_stacks.specs.declared.paired_sides.Side.TheVariants.{Before, After}
use Rattle.merged_stacks.specs.Timeline.{total_weight}
use Rattle.merged_stacks.specs.Paired.{side_samples}
use Rattle.flame_layout.specs.Chart.{chart_of}
use Rattle.flame_layout.specs.Comparison.{comparison_of}
use Rattle.flame_layout.specs.checked.Paired.{paired_rows}
use Rattle.flame_layout.proofs.Sides.{before_weight, after_weight, compared_rows}
use Rattle.flame_layout.proofs.comparisons.compare_stacks.Goals as goal

pub draw_all-requires : goal.draw_all-requires
draw_all-requires c =
    let before = c.args.before.now.samples in
    let after = c.args.after.now.samples in
    let weight = ap (λ stacks. total_weight (side_samples Before stacks)) c.requires.stacks ∙ before_weight before after in
    omega (arith, weight, c.total.ensures, c.requires.before)

pub draw_all-requires-2 : goal.draw_all-requires-2
draw_all-requires-2 c =
    let before = c.args.before.now.samples in
    let after = c.args.after.now.samples in
    let weight = ap (λ stacks. total_weight (side_samples After stacks)) c.requires.stacks ∙ after_weight before after in
    omega (arith, weight, c.total-2.ensures, c.requires.after)

pub returns : goal.returns
returns c =
    let before = c.args.before.now.samples in
    let after = c.args.after.now.samples in
    let lefts = c.in_ok-left.ensures ∙ ap (λ stacks. chart_of (side_samples Before stacks)) c.requires.stacks in
    let rights = c.in_ok-right.ensures ∙ ap (λ stacks. chart_of (side_samples After stacks)) c.requires.stacks in
    IfOk-weaker c.pair_rows.result (λ rows. rows.items ≡ paired_rows [] c.in_ok-left.left c.in_ok-right.right) (λ rows. rows.items ≡ comparison_of before after)
    (λ found e. e ∙ compared_rows before after c.in_ok-left.left c.in_ok-right.right lefts rights) c.pair_rows.ensures
