-- The pieces so far were appended.
use Rattle.std.proofs.Common.{◌≡◌, ◌≤◌, ◌-◌, ◌++◌, length, take}
use Rattle.std.specs.List.{concat}
use Rattle.byte_io.proofs.piece_output.append_each.Given as goal

abbrev pub invariant-each : goal.invariant-each
invariant-each g l = record {
  within : l.at ≤ length (g.P.Pieces.pieces l.text);
  appended : l.out.items ≡ l.initial.out.items ++ concat (take l.at (g.P.Pieces.pieces l.text));
}

abbrev pub decreases-each : goal.decreases-each
decreases-each g l = length (g.P.Pieces.pieces l.text) - l.at
