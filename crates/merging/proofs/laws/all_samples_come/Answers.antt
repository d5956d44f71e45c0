use Rattle.merging.proofs.CountLemmas.{first_lists-all}
use Rattle.std.proofs.Common.{ap}
use Rattle.merging.specs.Sums.{all_samples}
use Rattle.merging.proofs.laws.all_samples_come.Goals as goal

pub returns : goal.returns
returns c order lists is = ap all_samples (first_lists-all order lists is)
