-- The part has the pieces so far.
use Rattle.std.proofs.Common.{◌≡◌, ◌≤◌, ◌-◌, length}
use Rattle.std.specs.List.{concat, slice_range}
use Rattle.byte_io.proofs.piece_threads.Part.make.Given as goal

abbrev pub invariant-each : goal.invariant-each
invariant-each g l = record {
  from : l.self.from ≡ l.fn.self.from;
  bytes : l.self.bytes.items ≡ concat (slice_range (g.P.Pieces.pieces l.text) l.self.from l.self.next);
  further : l.self.from ≤ l.self.next;
  within : l.self.from ≤ length (g.P.Pieces.pieces l.text) → l.self.next ≤ length (g.P.Pieces.pieces l.text);
}

abbrev pub decreases-each : goal.decreases-each
decreases-each g l = length (g.P.Pieces.pieces l.text) - l.self.next
