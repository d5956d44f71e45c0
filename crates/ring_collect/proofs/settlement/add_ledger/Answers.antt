use Rattle.std.proofs.Common.{refl, inr}
use Rattle.ring_collect.proofs.settlement.add_ledger.Goals as goal

pub returns-in_default-clause-first : goal.returns-in_default-clause-first
returns-in_default-clause-first c = inr refl
