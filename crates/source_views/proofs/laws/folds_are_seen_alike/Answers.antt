use Rattle.source_views.proofs.FoldedSources.{same_views, source_foldable}
use Rattle.source_views.proofs.laws.folds_are_seen_alike.Goals as goal

pub returns-clause-text : goal.returns-clause-text
returns-clause-text c = same_views

pub returns-clause-foldable : goal.returns-clause-foldable
returns-clause-foldable c = source_foldable
