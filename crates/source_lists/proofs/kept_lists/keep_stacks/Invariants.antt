use Rattle.std.proofs.Common.{◌≡◌, take}
use Rattle.source_lists.specs.checked.KeptStacks.{begun}
use Rattle.source_lists.proofs.kept_lists.keep_stacks.Given as goal

abbrev pub invariant-loop-number : goal.invariant-loop-number
invariant-loop-number l = l.ledger ≡ begun l.list.told (take l.number l.list.stacks)
