use Rattle.std.proofs.Common.{◌≡◌, ℕ, List, length, take, drop}
use Rattle.merged_stacks.specs.Timeline.{samples_of}
use Rattle.merged_stacks.specs.Merged.{all_samples}
use Rattle.merged_stacks.specs.checked.Ranks.{all_told}
use Rattle.merged_stacks.specs.checked.Ranked.{HasSums, IsNamedBy}
use Rattle.merged_stacks.proofs.merged.ranked.Given as goal

abbrev pub invariant-loop-list : goal.invariant-loop-list
invariant-loop-list l = record {
  long : length l.rest ≡ length (all_told (drop l.list-index l.lists));
  named : (names : List (List ℕ)) → IsNamedBy names l.ranks (all_told l.lists) → IsNamedBy names l.rest (all_told (drop l.list-index l.lists));
  sums : (names : List (List ℕ)) → IsNamedBy names l.ranks (all_told l.lists) → HasSums names (all_samples (samples_of (take l.list-index l.lists))) l.rows;
}
