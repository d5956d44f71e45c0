use Rattle.std.proofs.Common.{take}
use Rattle.call_tree.specs.FrameTable.{HasDistinctNames}
use Rattle.flame_layout.specs.checked.Held.{Holds}
use Rattle.lay_out_tests.proofs.tests.of_flame_layout.trees.add_list.Given as goal

abbrev pub invariant-loop-at : goal.invariant-loop-at
invariant-loop-at l = record {
  held : Holds l.table l.tree (take l.at l.list.samples);
  distinct : HasDistinctNames l.table;
}
