use Rattle.std.proofs.Common.{refl}
use Rattle.byte_io.proofs.memory_files.MemoryFiles.new.Goals as goal

pub returns-clause-limit : goal.returns-clause-limit
returns-clause-limit c = refl
