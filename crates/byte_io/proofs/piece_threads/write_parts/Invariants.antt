-- The parts so far were written, and no call failed.
use Rattle.std.proofs.Common.{◌≡◌, take}
use Rattle.std.specs.Io.KnownBytes.{Appends}
use Rattle.byte_io.specs.checked.Parts.{bytes_of}
use Rattle.byte_io.proofs.piece_threads.write_parts.Given as goal

abbrev pub invariant-each : goal.invariant-each
invariant-each g l = record {
  written : Appends (g.W.Outlet.contents l.initial.out) (g.W.Outlet.contents l.out) (bytes_of (take l.part-index l.parts));
  unfailed : g.W.Outlet.failures l.out ≡ g.W.Outlet.failures l.initial.out;
}
