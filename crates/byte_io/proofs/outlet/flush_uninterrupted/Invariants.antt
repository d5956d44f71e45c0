-- A flush that was interrupted took nothing.
use Rattle.std.specs.Io.KnownBytes.{Keeps}
use Rattle.byte_io.proofs.outlet.flush_uninterrupted.Given as goal

abbrev pub invariant-loop-turn : goal.invariant-loop-turn
invariant-loop-turn g l = Keeps (g.W.Write.contents l.initial.writer) (g.W.Write.contents l.writer)
