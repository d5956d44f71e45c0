use Rattle.stack_core.proofs.InterleavingLemmas.{AreOf-AreInterleaved}
use Rattle.stack_core.proofs.ScheduleLemmas.{handed_out_by_source}
use Rattle.stack_core.proofs.laws.pops_are_an_interleaving.Goals as goal

pub returns : goal.returns
returns g c = λ given size told events. AreOf-AreInterleaved _ _ (handed_out_by_source given size told events)
