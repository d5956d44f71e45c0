use Rattle.std.proofs.Common.{◌∙◌, ap, subst, All}
use Rattle.merging.specs.Gathered.{GatheredState}
use Rattle.merging.specs.Sums.{IsDrawable}
use Rattle.merging.proofs.GatherLemmas.{snapshots_drawable}
use Rattle.merging.proofs.collection.Gathered.snapshots.Goals as goal

pub returns-clause-snapshots : goal.returns-clause-snapshots
returns-clause-snapshots c = c.snapshots.ensures.snapshots ∙ ap (λ (state : GatheredState). state.snapshots) c.self.view_is

pub returns-clause-drawable : goal.returns-clause-drawable
returns-clause-drawable c =
    let g = c.self.inside in
    subst (λ (state : GatheredState). All (λ snapshot. IsDrawable state.names snapshot.tree) state.snapshots) c.self.view_is
    (snapshots_drawable g.sources.lists g.sources.order g.sink.every g.sink.names g.sink.tree g.sink.snapshots c.self.invariant)
