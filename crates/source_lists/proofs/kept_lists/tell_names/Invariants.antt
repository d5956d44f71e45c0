use Rattle.std.proofs.Common.{◌≡◌, [], take}
use Rattle.source_lists.specs.checked.KeptStacks.{begun}
use Rattle.source_lists.proofs.kept_lists.tell_names.Given as goal

abbrev pub invariant-loop-number : goal.invariant-loop-number
invariant-loop-number l = l.ledger ≡ begun (take l.number l.list.told) []
