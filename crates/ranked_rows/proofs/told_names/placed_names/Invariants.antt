use Rattle.std.proofs.Common.{◌≡◌, ℕ, List, length, map, take}
use Rattle.std.specs.List.{enumerate_from}
use Rattle.ranked_rows.specs.checked.Names.{AreNamed, placed_name}
use Rattle.ranked_rows.proofs.told_names.placed_names.Given as goal

abbrev pub invariant-loop-number : goal.invariant-loop-number
invariant-loop-number g l = record {
  count : length l.kept.items ≡ l.number;
  placed : (names : List (List ℕ)) → AreNamed (goal.F-post g l.name_of) l.count names → map placed_name l.kept.items ≡ enumerate_from 0 (take l.number names);
}
