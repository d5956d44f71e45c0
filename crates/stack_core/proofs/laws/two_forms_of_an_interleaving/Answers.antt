use Rattle.stack_core.proofs.InterleavingLemmas.{AreOf-AreInterleaved, AreInterleaved-AreOf}
use Rattle.stack_core.proofs.laws.two_forms_of_an_interleaving.Goals as goal

pub returns-clause-by_order : goal.returns-clause-by_order
returns-clause-by_order g c = AreOf-AreInterleaved

pub returns-clause-by_source : goal.returns-clause-by_source
returns-clause-by_source g c = AreInterleaved-AreOf
