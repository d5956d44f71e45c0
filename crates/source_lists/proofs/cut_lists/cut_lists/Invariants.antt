use Rattle.std.proofs.Common.{◌≡◌, map, take}
use Rattle.ring_collect.specs.Collection.{seen_as_rest}
use Rattle.source_lists.specs.checked.CutStacks.{edited_rest, shown_stack}
use Rattle.source_lists.proofs.cut_lists.cut_lists.Given as goal

abbrev pub invariant-loop-list : goal.invariant-loop-list
invariant-loop-list l = map seen_as_rest l.cut.items ≡ map (edited_rest (shown_stack l.from l.omitted)) (map seen_as_rest (take l.list-index l.lists))
