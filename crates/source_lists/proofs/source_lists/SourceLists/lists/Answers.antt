use Rattle.std.proofs.Common.{◌<◌, ◌^◌, subst}
use Rattle.merged_stacks.specs.Merged.{all_samples}
use Rattle.merged_stacks.specs.Timeline.{samples_of, timeline, total_weight}
use Rattle.source_lists.specs.Lists.{ListsState}
use Rattle.source_lists.proofs.ListLemmas.{lists_small, timeline_fits, total_fits}
use Rattle.source_lists.proofs.source_lists.SourceLists.lists.Goals as goal

pub returns-clause-total : goal.returns-clause-total
returns-clause-total c =
    subst (λ (state : ListsState). total_weight (all_samples (samples_of state.lists)) < 2 ^ 64) c.self.view_is (total_fits _ (lists_small _ c.self.invariant.limits))

pub returns-clause-timeline : goal.returns-clause-timeline
returns-clause-timeline c =
    subst (λ (state : ListsState). total_weight (timeline (samples_of state.lists)) < 2 ^ 64) c.self.view_is (timeline_fits _ c.self.invariant.limits)
