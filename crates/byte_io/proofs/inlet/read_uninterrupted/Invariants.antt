-- A read that was interrupted took nothing.

use Rattle.std.specs.Io.KnownBytes.{Keeps}
use Rattle.byte_io.proofs.inlet.read_uninterrupted.Given as goal

abbrev pub invariant-loop-turn : goal.invariant-loop-turn
invariant-loop-turn g l = Keeps (g.R.Read.remaining l.initial.reader) (g.R.Read.remaining l.reader)
