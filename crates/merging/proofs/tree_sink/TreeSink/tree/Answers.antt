use Rattle.std.proofs.Common.{subst}
use Rattle.merging.specs.Snapshots.{samples_of_pairs}
use Rattle.merging.specs.Sums.{HasSumsOf}
use Rattle.merging.specs.checked.TakenRows.{rows_of}
use Rattle.merging.specs.TreeSinkState.{TreeSinkState}
use Rattle.merging.proofs.SinkLemmas.{merged_sums}
use Rattle.merging.proofs.tree_sink.TreeSink.tree.Goals as goal

pub returns-clause-sums : goal.returns-clause-sums
returns-clause-sums c =
    let s = c.self.inside in
    subst (λ (state : TreeSinkState). HasSumsOf state.names state.tree (samples_of_pairs state.taken)) c.self.view_is
    (merged_sums s.tally.every s.table s.tree (rows_of s.tally.taken) s.snapshots.items c.self.invariant.merged)
