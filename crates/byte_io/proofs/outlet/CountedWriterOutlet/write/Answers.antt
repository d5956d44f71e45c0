use Rattle.std.proofs.Common.{rules}
use Rattle.byte_io.proofs.outlet.CountedWriterOutlet.write.Goals as goal

pub returns-clause-count : goal.returns-clause-count
returns-clause-count g c = search rules
