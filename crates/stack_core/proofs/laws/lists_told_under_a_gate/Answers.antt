use Rattle.std.proofs.Common.{refl}
use Rattle.stack_core.proofs.ToldLemmas.{told_under_is_told, told_under-IsCollected, collected_whole}
use Rattle.stack_core.proofs.laws.lists_told_under_a_gate.Goals as goal

pub returns-clause-told : goal.returns-clause-told
returns-clause-told g c = λ gate source rest items told. told_under_is_told _ _ source rest items told

pub returns-clause-collected : goal.returns-clause-collected
returns-clause-collected g c = λ gate source rest list told. told_under-IsCollected _ _ source rest list _ told refl

pub returns-clause-whole : goal.returns-clause-whole
returns-clause-whole g c = λ gate source rest list never collected. collected_whole _ _ source rest list never collected
