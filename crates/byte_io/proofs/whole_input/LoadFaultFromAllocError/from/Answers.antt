use Rattle.std.proofs.Common.{refl}
use Rattle.byte_io.proofs.whole_input.LoadFaultFromAllocError.from.Goals as goal

pub returns : goal.returns
returns c = refl
