use Rattle.std.proofs.Common.{subst}
use Rattle.stack_core.specs.Interleaving.{sources_of}
use Rattle.merging.specs.Snapshots.{first_samples, AreSnapshots}
use Rattle.merging.specs.checked.TakenRows.{rows_of}
use Rattle.merging.specs.TreeSinkState.{TreeSinkState}
use Rattle.merging.proofs.SinkLemmas.{merged_snapshots}
use Rattle.merging.proofs.tree_sink.TreeSink.snapshots.Goals as goal

pub returns-clause-made : goal.returns-clause-made
returns-clause-made c =
    let s = c.self.inside in
    subst (λ (state : TreeSinkState). AreSnapshots state.every state.names (sources_of state.taken) (first_samples state.taken) state.snapshots) c.self.view_is
    (merged_snapshots s.tally.every s.table s.tree (rows_of s.tally.taken) s.snapshots.items c.self.invariant.merged)
