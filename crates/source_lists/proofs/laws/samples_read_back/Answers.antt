use Rattle.source_lists.proofs.BackLemmas.{samples_back}
use Rattle.source_lists.proofs.laws.samples_read_back.Goals as goal

pub returns : goal.returns
returns c = samples_back
