use Rattle.view_texts.proofs.PartFolds.{text_foldable, text-fold}
use Rattle.view_texts.proofs.laws.text_folds_in_parts.Goals as goal

pub returns-clause-foldable : goal.returns-clause-foldable
returns-clause-foldable c = text_foldable

pub returns-clause-fold : goal.returns-clause-fold
returns-clause-fold c = text-fold
