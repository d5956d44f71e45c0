use Rattle.std.proofs.Common.{◌∙◌, ap, subst}
use Rattle.merging.specs.Gathered.{GatheredState}
use Rattle.merging.specs.Sums.{IsDrawable}
use Rattle.merging.proofs.GatherLemmas.{gathered_drawable}
use Rattle.merging.proofs.collection.Gathered.tree.Goals as goal

pub returns-clause-tree : goal.returns-clause-tree
returns-clause-tree c = c.tree.ensures.tree ∙ ap (λ (state : GatheredState). state.tree) c.self.view_is

pub returns-clause-drawable : goal.returns-clause-drawable
returns-clause-drawable c =
    let g = c.self.inside in
    subst (λ (state : GatheredState). IsDrawable state.names state.tree) c.self.view_is
    (gathered_drawable g.sources.lists g.sources.order g.sink.every g.sink.names g.sink.tree g.sink.snapshots c.self.invariant)
