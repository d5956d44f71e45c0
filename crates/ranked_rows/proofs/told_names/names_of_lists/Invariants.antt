use Rattle.std.proofs.Common.{take}
use Rattle.ranked_rows.specs.Ranks.{all_told}
use Rattle.ranked_rows.specs.checked.Names.{AreKept}
use Rattle.ranked_rows.proofs.told_names.names_of_lists.Given as goal

abbrev pub invariant-loop-list : goal.invariant-loop-list
invariant-loop-list l = AreKept (all_told (take l.list-index l.lists)) l.told.kept.items l.told.places.items
