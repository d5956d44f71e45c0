-- What was sent and what waits are the pieces so far, and no call failed.
use Rattle.std.proofs.Common.{◌≡◌, ◌≤◌, ◌-◌, ◌++◌, ℕ, List, length, take}
use Rattle.std.specs.Io.KnownBytes.{Appends}
use Rattle.std.specs.List.{concat}
use Rattle.byte_io.proofs.piece_output.send_pieces.Given as goal

abbrev pub invariant-each : goal.invariant-each
invariant-each g l = record {
  within : l.at ≤ length (g.P.Pieces.pieces l.text);
  sent : (sent : List ℕ) × (concat (take l.at (g.P.Pieces.pieces l.text)) ≡ sent ++ l.waiting.items)
      × Appends (g.W.Outlet.contents l.initial.out) (g.W.Outlet.contents l.out) sent;
  unfailed : g.W.Outlet.failures l.out ≡ g.W.Outlet.failures l.initial.out;
}

abbrev pub decreases-each : goal.decreases-each
decreases-each g l = length (g.P.Pieces.pieces l.text) - l.at
