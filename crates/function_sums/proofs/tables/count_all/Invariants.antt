use Rattle.std.proofs.Common.{◌+◌, [], take}
use Rattle.merged_stacks.specs.RankedStacks.{ranked_samples}
use Rattle.function_sums.specs.checked.Counted.{AreCounts}
use Rattle.function_sums.specs.checked.Cuts.{counted_of, lasts_of}
use Rattle.function_sums.proofs.tables.count_all.Given as goal

abbrev pub invariant-loop-at : goal.invariant-loop-at
invariant-loop-at l =
    AreCounts l.merged.names l.counts.items (lasts_of l.call (take l.at (ranked_samples l.merged))) (counted_of l.call (take l.at (ranked_samples l.merged))) [] 0 (l.at + 1)
