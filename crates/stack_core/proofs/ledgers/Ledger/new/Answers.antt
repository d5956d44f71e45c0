use Rattle.std.proofs.Common.{refl}
use Rattle.stack_core.proofs.ledgers.Ledger.new.Goals as goal

pub returns : goal.returns
returns c = rw c.new.ensures refl
