use Rattle.std.proofs.lemmas.Result.{IfOk-weaker}
use Rattle.merged_stacks.specs.RankedStacks.{ranked_samples}
use Rattle.merged_stacks.specs.Timeline.{samples_of}
use Rattle.merged_stacks.specs.Merged.{all_samples}
use Rattle.flame_layout.specs.Paths.{SameOwn}
use Rattle.source_views.proofs.MergedRuns.{SameOwn-merged}
use Rattle.source_views.proofs.shown.merge_given.Goals as goal

pub returns : goal.returns
returns g c =
    IfOk-weaker c.from_lists.result _ (λ merged. SameOwn (all_samples (samples_of c.args.sources.lists)) (ranked_samples merged))
    (λ merged. SameOwn-merged c.into_lists.result.items c.args.sources.lists c.into_lists.ensures.lists (ranked_samples merged)) c.from_lists.ensures
