use Rattle.std.proofs.Common.{◌≡◌, All, map, take}
use Rattle.ranked_rows.specs.checked.Entries.{ranked_rows, ranked_entry, IsEntryOf}
use Rattle.ranked_rows.proofs.rows.entries.Given as goal

abbrev pub invariant-loop-row : goal.invariant-loop-row
invariant-loop-row l = record {
  ranked : map ranked_entry l.all.items ≡ ranked_rows l.frames (take l.row-index l.fn.rows.items);
  within : All (IsEntryOf l.frames) l.all.items;
}
