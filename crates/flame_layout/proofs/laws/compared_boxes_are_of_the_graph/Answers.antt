use Rattle.flame_layout.proofs.ComparedBoxes.{compared-spans, compared-totals}
use Rattle.flame_layout.proofs.laws.compared_boxes_are_of_the_graph.Goals as goal

pub returns-clause-spans : goal.returns-clause-spans
returns-clause-spans c = compared-spans

pub returns-clause-totals : goal.returns-clause-totals
returns-clause-totals c = compared-totals
