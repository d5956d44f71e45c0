use Rattle.std.proofs.Common.{ℕ, List, map}
use Rattle.std.specs.List.{range_with_len}
use Rattle.merged_stacks.specs.checked.Kept.{kept_sample}
use Rattle.merged_stacks.specs.checked.Ranked.{HasSums, IsNamedBy}
use Rattle.merged_stacks.proofs.list_sums.rows_of_sums.Given as goal

abbrev pub invariant-loop-number : goal.invariant-loop-number
invariant-loop-number l =
    (names : List (List ℕ)) → IsNamedBy names l.ranks l.table.names
    → HasSums names (map (kept_sample l.table.names l.table.stacks l.sums) (range_with_len 0 l.number)) l.rows
