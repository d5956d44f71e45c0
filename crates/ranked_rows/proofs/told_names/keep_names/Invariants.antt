use Rattle.std.proofs.Common.{ℕ, ◌++◌, List, take}
use Rattle.ranked_rows.specs.checked.Names.{AreKept}
use Rattle.ranked_rows.proofs.told_names.keep_names.Given as goal

abbrev pub invariant-loop-number : goal.invariant-loop-number
invariant-loop-number l =
    (front : List (List ℕ)) → AreKept front l.fn.told.kept.items l.fn.told.places.items → AreKept (front ++ take l.number l.list.told) l.told.kept.items l.told.places.items
