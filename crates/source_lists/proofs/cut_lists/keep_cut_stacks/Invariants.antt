use Rattle.std.proofs.Common.{◌≡◌, map, take}
use Rattle.source_lists.specs.checked.CutStacks.{shown_numbers}
use Rattle.source_lists.specs.checked.KeptStacks.{begun}
use Rattle.source_lists.proofs.cut_lists.keep_cut_stacks.Given as goal

abbrev pub invariant-loop-number : goal.invariant-loop-number
invariant-loop-number l = l.ledger ≡ begun l.list.told (map (shown_numbers l.starts l.left_out) (take l.number l.list.stacks))
