use Rattle.view_texts.proofs.PartFolds.{permuted-fold}
use Rattle.view_texts.proofs.laws.folds_see_no_order.Goals as goal

pub returns : goal.returns
returns c = permuted-fold
