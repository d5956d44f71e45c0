use Rattle.stack_core.proofs.InterleavingLemmas.{IsInterleaving-within, sources_of-interleaved, IsInterleaving-AreOf, slice_get-interleaved, of_source-take_interleaved}
use Rattle.stack_core.proofs.laws.an_order_stands_for_its_lists.Goals as goal

pub returns-clause-sources : goal.returns-clause-sources
returns-clause-sources g c = sources_of-interleaved

pub returns-clause-lists : goal.returns-clause-lists
returns-clause-lists g c = IsInterleaving-AreOf

pub returns-clause-entry : goal.returns-clause-entry
returns-clause-entry g c = λ order lists k source is at. slice_get-interleaved order lists is k source at

pub returns-clause-first : goal.returns-clause-first
returns-clause-first g c = λ order lists m source is. of_source-take_interleaved order lists is m source

pub returns-clause-within : goal.returns-clause-within
returns-clause-within g c = IsInterleaving-within
