use Rattle.std.proofs.Common.{◌≡◌, ◌≤◌, length, map, take}
use Rattle.ring_collect.specs.NamesInOrder.{GrowsTo}
use Rattle.sample_tables.specs.Rows.{name_at}
use Rattle.merging.specs.checked.TakenRows.{AreNumbersOf}
use Rattle.merging.proofs.summed_stacks.number_frames.Given as goal

abbrev pub invariant-loop-frame : goal.invariant-loop-frame
invariant-loop-frame l = record {
  reached : l.frame-index ≤ length l.frames;
  numbers : AreNumbersOf (map (name_at l.ledger.told) (take l.frame-index l.frames)) l.table.names l.numbers.items;
  names : GrowsTo l.fn.table.names l.table.names;
  stacks : l.table.stacks ≡ l.fn.table.stacks;
}
