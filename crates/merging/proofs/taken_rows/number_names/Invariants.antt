use Rattle.std.proofs.Common.{◌≡◌, ◌≤◌, length, take}
use Rattle.call_tree.specs.FrameTable.{HasDistinctNames}
use Rattle.ring_collect.specs.NamesInOrder.{with_stack, GrowsTo}
use Rattle.merging.specs.checked.TakenRows.{AreNumbersOf}
use Rattle.merging.proofs.taken_rows.number_names.Given as goal

abbrev pub invariant-loop-at : goal.invariant-loop-at
invariant-loop-at l =
    let names = l.stack in
    record {
      reached : l.at ≤ length names;
      count : l.at-end ≡ length names;
      numbers : AreNumbersOf (take l.at names) l.table l.numbers.items;
      grows : GrowsTo l.fn.table l.table;
      in_order : l.table ≡ with_stack l.fn.table (take l.at names);
      distinct : HasDistinctNames l.table;
    }
