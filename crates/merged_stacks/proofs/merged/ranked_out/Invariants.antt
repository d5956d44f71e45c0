use Rattle.std.proofs.Common.{◌≡◌, ◌<◌, ◌^◌, ◌++◌, ℕ, List, length}
use Rattle.sample_tables.specs.declared.samples.Sample.{Sample}
use Rattle.merged_stacks.specs.Timeline.{samples_of, total_weight}
use Rattle.merged_stacks.specs.Merged.{all_samples}
use Rattle.merged_stacks.specs.checked.Ranks.{all_told}
use Rattle.merged_stacks.specs.checked.Ranked.{HasSums, IsNamedBy}
use Rattle.merged_stacks.proofs.merged.ranked_out.Given as goal

-- the rows have the sums of the lists that were given up, and the ranks that are left are those of the others
abbrev pub invariant-each : goal.invariant-each
invariant-each l = record {
  long : length l.rest ≡ length (all_told l.lists.items);
  total : total_weight (all_samples (samples_of l.lists.items)) < 2 ^ 64;
  named : (names : List (List ℕ)) → IsNamedBy names l.fn.ranks.items (all_told l.fn.lists.items) → IsNamedBy names l.rest (all_told l.lists.items);
  sums : (names : List (List ℕ)) → IsNamedBy names l.fn.ranks.items (all_told l.fn.lists.items)
      → (front : List Sample) × (front ++ all_samples (samples_of l.lists.items) ≡ all_samples (samples_of l.fn.lists.items)) × HasSums names front l.rows;
}

abbrev pub decreases-each : goal.decreases-each
decreases-each l = length l.lists.items
