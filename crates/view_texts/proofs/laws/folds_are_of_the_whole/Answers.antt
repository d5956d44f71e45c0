use Rattle.view_texts.proofs.PartFolds.{refolded-merged, refolded-clean, two-fold, parts-fold, parts-graph, texts_read}
use Rattle.view_texts.proofs.laws.folds_are_of_the_whole.Goals as goal

pub returns-clause-merged : goal.returns-clause-merged
returns-clause-merged c = refolded-merged

pub returns-clause-clean : goal.returns-clause-clean
returns-clause-clean c = refolded-clean

pub returns-clause-two : goal.returns-clause-two
returns-clause-two c = two-fold

pub returns-clause-parts : goal.returns-clause-parts
returns-clause-parts c = parts-fold

pub returns-clause-graph : goal.returns-clause-graph
returns-clause-graph c = parts-graph

pub returns-clause-one_source : goal.returns-clause-one_source
returns-clause-one_source c = texts_read
