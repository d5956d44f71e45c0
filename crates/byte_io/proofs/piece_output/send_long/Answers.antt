use Rattle.std.proofs.Common.{rules}
use Rattle.byte_io.proofs.piece_output.send_long.Goals as goal

pub returns-in_ok-write_whole-clause-ok : goal.returns-in_ok-write_whole-clause-ok
returns-in_ok-write_whole-clause-ok g c = search rules
