use Rattle.stack_core.specs.Told.{sample_of}
use Rattle.stack_core.proofs.InterleavingLemmas.{AreOf-AreInterleaved}
use Rattle.stack_core.proofs.ScheduleLemmas.{handed_out_by_source}
use Rattle.stack_core.proofs.laws.pops_of_samples_are_an_interleaving.Goals as goal

pub returns : goal.returns
returns c = λ size told events. AreOf-AreInterleaved _ _ (handed_out_by_source sample_of size told events)
