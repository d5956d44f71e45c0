use Rattle.std.proofs.Common.{◌≡◌}
use Rattle.std.proofs.lemmas.Result.{IfOk-weaker}
use Rattle.flame_layout.specs.Graph.{graph_of}
use Rattle.merged_stacks.specs.Merged.{all_samples}
use Rattle.merged_stacks.specs.Timeline.{samples_of}
use Rattle.source_views.proofs.drawings.draw_graph.Goals as goal

pub returns : goal.returns
returns c =
    let samples = all_samples (samples_of c.args.sources.now.lists) in
    IfOk-weaker c.merged_boxes.result _ (λ boxes. boxes.items ≡ graph_of samples)
    (λ boxes drawn. drawn samples c.in_ok-merged.ensures)
    c.merged_boxes.ensures.graph
