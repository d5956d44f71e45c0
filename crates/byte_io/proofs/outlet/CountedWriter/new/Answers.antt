use Rattle.std.proofs.Common.{refl}
use Rattle.byte_io.proofs.outlet.CountedWriter.new.Goals as goal

pub returns-clause-unflushed : goal.returns-clause-unflushed
returns-clause-unflushed g c = refl
