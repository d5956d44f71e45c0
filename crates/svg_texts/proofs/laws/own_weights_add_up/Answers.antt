use Rattle.svg_texts.proofs.OwnWeights.{chart-own, graph-own, comparison-own}
use Rattle.svg_texts.proofs.laws.own_weights_add_up.Goals as goal

pub returns-clause-chart : goal.returns-clause-chart
returns-clause-chart c = chart-own

pub returns-clause-graph : goal.returns-clause-graph
returns-clause-graph c = graph-own

pub returns-clause-comparison : goal.returns-clause-comparison
returns-clause-comparison c = comparison-own
