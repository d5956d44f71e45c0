use Rattle.std.proofs.Common.{◌≡◌, map}
use Rattle.ring_collect.proofs.runs.endings_of.Given as goal

abbrev pub invariant-loop-list : goal.invariant-loop-list
invariant-loop-list l = l.endings.items ≡ map (λ list. list.ending) l.yielded
