use Rattle.merging.proofs.CountLemmas.{counts_at-rises}
use Rattle.merging.proofs.laws.counts_never_fall.Goals as goal

pub returns : goal.returns
returns c m n order source l = counts_at-rises m n order source l
