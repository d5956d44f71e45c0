use Rattle.std.proofs.Common.{◌∙◌, ap}
use Rattle.merged_stacks.specs.Timeline.{samples_of, total_weight}
use Rattle.merging.specs.Sums.{all_samples}
use Rattle.source_lists.specs.Lists.{ListsState}
use Rattle.source_views.proofs.shown.Shown.total.Goals as goal

pub returns : goal.returns
returns c = c.total.ensures.total ∙ ap (λ (run : ListsState). total_weight (all_samples (samples_of run.lists))) c.get.ensures
