use Rattle.std.proofs.Common.{refl}
use Rattle.byte_io.proofs.outlet.CountedWriter.failures.Goals as goal

pub returns : goal.returns
returns g c = refl
