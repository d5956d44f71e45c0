use Rattle.std.proofs.Common.{◌≡◌, length, take}
use Rattle.merged_stacks.specs.checked.Kept.{ArePicked}
use Rattle.merged_stacks.proofs.list_sums.sums_of.Given as goal

-- the sums are those of the samples so far
abbrev pub invariant-loop-at : goal.invariant-loop-at
invariant-loop-at l = record {
  len : length l.sums.items ≡ length l.list.stacks;
  picked : ArePicked l.list.stacks l.sums.items (take l.at l.list.rows);
}
