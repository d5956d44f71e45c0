use Rattle.std.proofs.Common.{◌*◌, length}
use Rattle.byte_io.proofs.piece_threads.+rounds.Given as goal

abbrev pub decreases-make_and_write : goal.decreases-make_and_write
decreases-make_and_write g l = 2 * length l.parts.now

abbrev pub decreases-right : goal.decreases-right
decreases-right g l = 2 * length l.others.now
