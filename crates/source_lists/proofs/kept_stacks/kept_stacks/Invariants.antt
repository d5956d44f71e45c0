use Rattle.std.proofs.Common.{◌≡◌, take, map}
use Rattle.sample_tables.specs.Rows.{name_at}
use Rattle.source_lists.specs.checked.KeptStacks.{passes}
use Rattle.source_lists.proofs.kept_stacks.kept_stacks.Given as goal

abbrev pub invariant-loop-number : goal.invariant-loop-number
invariant-loop-number l =
    l.kept.items ≡ map (λ frames. passes l.keeping (map (name_at l.list.told) frames)) (take l.number l.list.stacks)
