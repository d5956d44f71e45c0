-- What was sent and the row that waits are the pieces so far, and no call failed.
use Rattle.std.proofs.Common.{◌≡◌, ◌≤◌, ◌-◌, ◌++◌, ℕ, List, length, take}
use Rattle.std.specs.Io.KnownBytes.{Appends}
use Rattle.std.specs.List.{concat}
use Rattle.byte_io.specs.checked.Parts.{bytes_of}
use Rattle.byte_io.proofs.piece_threads.send_in_rounds.Given as goal

abbrev pub invariant-rounds : goal.invariant-rounds
invariant-rounds g l = record {
  row : l.row.parts ≤ 3;
  within : l.row.next ≤ length (g.P.Pieces.pieces l.text);
  sent : (sent : List ℕ) × (concat (take l.row.next (g.P.Pieces.pieces l.text)) ≡ sent ++ bytes_of (take l.row.parts l.ready))
      × Appends (g.W.Outlet.contents l.initial.out) (g.W.Outlet.contents l.out) sent;
  unfailed : g.W.Outlet.failures l.out ≡ g.W.Outlet.failures l.initial.out;
}

abbrev pub decreases-rounds : goal.decreases-rounds
decreases-rounds g l = length (g.P.Pieces.pieces l.text) - l.row.next
