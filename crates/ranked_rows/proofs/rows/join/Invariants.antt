use Rattle.std.proofs.Common.{◌≡◌, map, drop, reverse}
use Rattle.ranked_rows.specs.Joined.{joined}
use Rattle.ranked_rows.specs.checked.Entries.{ranked_rows, ranked_entry, AreWithin}
use Rattle.ranked_rows.proofs.rows.join.Given as goal

abbrev pub invariant-loop-index : goal.invariant-loop-index
invariant-loop-index l = record {
  within : AreWithin l.frames l.rows.items;
  joined : reverse (ranked_rows l.frames l.rows.items) ≡ joined (map ranked_entry (drop l.index l.entries));
}
