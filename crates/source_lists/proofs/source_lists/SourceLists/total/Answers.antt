use Rattle.std.proofs.Common.{◌∙◌, ap}
use Rattle.merged_stacks.specs.Timeline.{samples_of, timeline, total_weight}
use Rattle.stack_core.specs.Ledgers.{ListState}
use Rattle.std.specs.Prelude.{List}
use Rattle.source_lists.proofs.ListLemmas.{timeline_weight}
use Rattle.source_lists.proofs.source_lists.SourceLists.total.Goals as goal

pub returns-clause-total : goal.returns-clause-total
returns-clause-total c =
    c.total_weight.ensures ∙ ap (λ (lists : List ListState). total_weight (timeline (samples_of lists))) c.lists.ensures.lists ∙ timeline_weight (samples_of c.args.self.now.lists)
