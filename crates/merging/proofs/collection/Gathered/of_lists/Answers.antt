use Rattle.std.proofs.Common.{◌∙◌, ap, subst, Option, ℕ}
use Rattle.stack_core.specs.Interleaving.{interleaved}
use Rattle.merged_stacks.specs.Timeline.{samples_of}
use Rattle.merging.specs.Snapshots.{snapshot_samples, AreSnapshots}
use Rattle.merging.specs.TreeSinkState.{TreeSinkState}
use Rattle.merging.proofs.GatherLemmas.{gathered}
use Rattle.merging.proofs.collection.Gathered.of_lists.Goals as goal

pub invariant_of-result : goal.invariant_of-result
invariant_of-result c =
    let taken = c.in_ok-feed_lists.ensures.taken ∙ (λ i. interleaved (c.order.ensures.order i) (samples_of (c.lists.ensures.lists i))) in
    gathered c.args.sources.lists c.args.sources.order c.feed_lists.new.sink c.lists.ensures.limits c.order.ensures.ordered taken c.recall_merged.ensures.sums c.recall_merged.ensures.made

pub returns-clause-snapshots : goal.returns-clause-snapshots
returns-clause-snapshots c =
    let sink = c.feed_lists.new.sink in
    let sources = c.args.sources in
    subst (λ (every : Option ℕ). AreSnapshots every sink.names sources.order (λ m. snapshot_samples m sources.order (samples_of sources.lists)) sink.snapshots)
    (c.feed_lists.ensures.every ∙ ap (λ (sink : TreeSinkState). sink.every) c.in_ok-sink.ensures) (invariant_of-result c).made

pub returns-clause-merged_totals : goal.returns-clause-merged_totals
returns-clause-merged_totals c = (invariant_of-result c).sums
