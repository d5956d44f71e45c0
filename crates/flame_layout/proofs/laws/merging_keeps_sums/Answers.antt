use Rattle.flame_layout.proofs.MergedSums.{merged_own}
use Rattle.flame_layout.proofs.laws.merging_keeps_sums.Goals as goal

pub returns : goal.returns
returns c = merged_own
