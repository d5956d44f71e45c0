use Rattle.std.proofs.Common.{◌++◌, ◌∷◌, [], None}
use Rattle.merged_stacks.specs.Timeline.{samples_of}
use Rattle.merging.specs.Sums.{all_samples}
use Rattle.source_views.proofs.PageDrawings.{lent_stacks}
use Rattle.source_views.specs.Pages.{plain_drawing}
use Rattle.source_views.proofs.drawn_runs.draw_run.Goals as goal

pub returns : goal.returns
returns c =
    let run = c.args.run.now in
    let samples = all_samples (samples_of run.lists) in
    let same = lent_stacks run.names c.table.result.now run.tree c.tree.result.now samples c.table.ensures.names c.tree.ensures.tree c.tree.ensures.sums.stacks in
    λ least. (λ i. c.in_ok-snapshots.ensures least i ++ plain_drawing least None (c.in_ok-graph.ensures.total samples same i) (c.in_ok-graph.ensures.boxes samples same i) ∷ [])
