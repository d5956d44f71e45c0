use Rattle.std.proofs.Common.{◌∷◌, [], arith}
use Rattle.std.proofs.lemmas.List.Sums.{sum_by-cons}
use Rattle.stack_core.specs.Ledgers.{ListState}
use Rattle.merged_stacks.specs.Timeline.{total_weight}
use Rattle.merged_stacks.proofs.Timelines.{timeline_weight}
use Rattle.bench_tree.proofs.drawing.count_boxes.Goals as goal

pub chart_boxes-requires : goal.chart_boxes-requires
chart_boxes-requires c =
    let alone = sum_by-cons (λ (list : ListState). total_weight list.samples) c.args.list [] in
    omega (arith, timeline_weight (c.args.list ∷ []), alone, c.total-else-total-most.ensures, c.if-total-most-2.false, c.from-most.ensures)
