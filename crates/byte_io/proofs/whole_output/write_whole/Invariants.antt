-- What is written went out in order, and no call failed.
use Rattle.std.proofs.Common.{◌≡◌, ◌≤◌, ◌-◌, length, take}
use Rattle.std.specs.Io.KnownBytes.{Appends}
use Rattle.byte_io.proofs.whole_output.write_whole.Given as goal

abbrev pub invariant-loop-written : goal.invariant-loop-written
invariant-loop-written g l = record {
  within : l.written ≤ length l.bytes;
  sent : Appends (g.W.Outlet.contents l.initial.out) (g.W.Outlet.contents l.out) (take l.written l.bytes);
  unfailed : g.W.Outlet.failures l.out ≡ g.W.Outlet.failures l.initial.out;
}

abbrev pub decreases-loop-written : goal.decreases-loop-written
decreases-loop-written g l = length l.bytes - l.written
