use Rattle.std.proofs.Common.{◌∙◌, ap}
use Rattle.source_views.specs.Views.{ViewsState}
use Rattle.source_views.proofs.view_set.Views.chart.Goals as goal

pub returns-clause-boxes : goal.returns-clause-boxes
returns-clause-boxes c = c.deref.ensures.value ∙ ap (λ (views : ViewsState). views.chart) c.self.view_is
