use Rattle.std.proofs.Common.{◌≡◌, ℕ, List, length, map, take, drop}
use Rattle.merged_stacks.specs.Merged.{all_samples}
use Rattle.merged_stacks.specs.checked.Growing.{came, lists_in}
use Rattle.merged_stacks.specs.checked.Ranks.{all_told}
use Rattle.merged_stacks.specs.checked.Ranked.{HasSums, IsNamedBy}
use Rattle.merged_stacks.proofs.growing.came_rows.Given as goal

abbrev pub invariant-loop-part : goal.invariant-loop-part
invariant-loop-part l = record {
  long : length l.rest ≡ length (all_told (drop l.part-index (lists_in l.parts)));
  named : (names : List (List ℕ)) → IsNamedBy names l.ranks (all_told (lists_in l.parts)) → IsNamedBy names l.rest (all_told (drop l.part-index (lists_in l.parts)));
  sums : (names : List (List ℕ)) → IsNamedBy names l.ranks (all_told (lists_in l.parts)) → HasSums names (all_samples (map came (take l.part-index l.parts))) l.rows;
}
