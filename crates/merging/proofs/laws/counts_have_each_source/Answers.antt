use Rattle.std.proofs.Common.{take}
use Rattle.merging.proofs.CountLemmas.{get_or-source_counts}
use Rattle.merging.proofs.laws.counts_have_each_source.Goals as goal

pub returns : goal.returns
returns c m order source = get_or-source_counts (take m order) source
