use Rattle.std.proofs.Common.{refl}
use Rattle.stack_core.proofs.gates.OpenGateGate.before.Goals as goal

pub returns : goal.returns
returns c = refl
