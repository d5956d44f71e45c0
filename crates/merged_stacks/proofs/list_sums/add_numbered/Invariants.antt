use Rattle.std.proofs.Common.{◌++◌, ℕ, List, map, take}
use Rattle.sample_tables.specs.declared.samples.Sample.{Sample}
use Rattle.merged_stacks.specs.checked.Kept.{kept_sample}
use Rattle.merged_stacks.specs.checked.Ranked.{HasSums, IsNamedBy}
use Rattle.merged_stacks.proofs.list_sums.add_numbered.Given as goal

abbrev pub invariant-loop-number : goal.invariant-loop-number
invariant-loop-number l =
    (names : List (List ℕ)) (samples : List Sample) → IsNamedBy names l.ranks l.list.told → HasSums names samples l.fn.rows
    → HasSums names (samples ++ map (kept_sample l.list.told l.list.stacks l.sums) (take l.number-index l.order)) l.rows
