-- the names of those that grew so far
use Rattle.std.proofs.Common.{◌≡◌, map, take}
use Rattle.function_sums.specs.Growth.{grown}
use Rattle.function_sums.proofs.growth.grown.Given as goal

abbrev pub invariant-loop-change : goal.invariant-loop-change
invariant-loop-change l =
    map (λ name. name.now) l.names.items ≡ map (λ change. change.name) (grown l.points l.whole (take l.change-index l.changes))
