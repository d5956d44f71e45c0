use Rattle.std.proofs.Common.{◌≡◌, ◌≤◌, length, map, take, string_bytes}
use Rattle.sample_tables.specs.Rows.{name_at}
use Rattle.merging.proofs.list_samples.set_frames.Given as goal

-- the names so far are those of the numbers
abbrev pub invariant-loop-at : goal.invariant-loop-at
invariant-loop-at l = record {
  reached : l.at ≤ length l.names.items;
  no_more : length l.names.items ≤ length l.frames;
  named : take l.at (map string_bytes l.names.items) ≡ map (name_at l.list.told) (take l.at l.frames);
}
