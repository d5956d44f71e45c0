use Rattle.std.proofs.Common.{◌≡◌, take, map}
use Rattle.source_lists.specs.checked.KeptStacks.{all_are_passing, passes}
use Rattle.source_lists.proofs.kept_stacks.all_kept_stacks.Given as goal

abbrev pub invariant-loop-list : goal.invariant-loop-list
invariant-loop-list l = map (λ marks. marks.items) l.kept.items ≡ all_are_passing (passes l.keeping) (take l.list-index l.lists)
