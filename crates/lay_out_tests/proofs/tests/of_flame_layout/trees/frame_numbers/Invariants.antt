use Rattle.std.proofs.Common.{◌≡◌, take}
use Rattle.sample_tables.specs.Rows.{sample_at}
use Rattle.call_tree.specs.FrameTable.{HasDistinctNames}
use Rattle.call_tree.specs.Listing.{named, AreIn}
use Rattle.merged_stacks.specs.checked.Ranks.{Grows}
use Rattle.lay_out_tests.proofs.tests.of_flame_layout.trees.frame_numbers.Given as goal

abbrev pub invariant-loop-frame : goal.invariant-loop-frame
invariant-loop-frame l = record {
  names : named l.table l.numbers.items ≡ take l.frame (sample_at l.list.samples l.at).stack;
  known : AreIn l.table l.numbers.items;
  grows : Grows l.fn.table l.table;
  distinct : HasDistinctNames l.table;
}
