-- The parts so far follow one another.
use Rattle.std.proofs.Common.{◌≡◌, take}
use Rattle.byte_io.specs.checked.Parts.{Follow}
use Rattle.byte_io.proofs.piece_threads.row_from.Given as goal

abbrev pub invariant-each : goal.invariant-each
invariant-each l = record {
  parts : l.row.parts ≡ l.part-index;
  follow : Follow l.from (take l.part-index l.parts) l.row.next;
}
