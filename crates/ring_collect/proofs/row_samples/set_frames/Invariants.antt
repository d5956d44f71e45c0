use Rattle.std.proofs.Common.{◌≡◌, ◌≤◌, length, map, take, string_bytes}
use Rattle.stack_core.specs.Records.{names_at}
use Rattle.ring_collect.proofs.row_samples.set_frames.Given as goal

-- the names so far are those of the row
abbrev pub invariant-loop-at : goal.invariant-loop-at
invariant-loop-at l = record {
  reached : l.at ≤ length l.names.items;
  no_more : length l.names.items ≤ length l.frames;
  named : take l.at (map string_bytes l.names.items) ≡ names_at l.ledger.told (take l.at l.frames);
}
