-- the sums that were taken out were 0
use Rattle.std.proofs.Common.{◌≡◌, ◌≤◌, ℕ, All, length}
use Rattle.sample_tables.specs.declared.samples.TheConstants.{WEIGHT_LIMIT}
use Rattle.source_lists.specs.checked.SummedRows.{pending, weigh}
use Rattle.source_lists.proofs.summed_rows.last_step.Given as goal

abbrev pub invariant-loop-weight : goal.invariant-loop-weight
invariant-loop-weight l = record {
  limits : All (λ sum. sum ≤ WEIGHT_LIMIT) l.sums.items;
  rows : length l.sums.items ≤ length l.fn.sums.items;
  weights : (number : ℕ → ℕ) → weigh number l.fn.sums.items ≡ weigh number l.sums.items;
  given : pending l.fn.sums.items ≡ pending l.sums.items;
}

abbrev pub decreases-loop-weight : goal.decreases-loop-weight
decreases-loop-weight l = length l.sums.items
