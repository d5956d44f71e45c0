use Rattle.std.proofs.Common.{◌≡◌, length, map, take, drop}
use Rattle.merged_stacks.specs.checked.Growing.{not_begun}
use Rattle.merged_stacks.specs.checked.Ranks.{all_told}
use Rattle.merged_stacks.proofs.growing.parts_of.Given as goal

abbrev pub invariant-loop-list : goal.invariant-loop-list
invariant-loop-list l = record {
  long : length l.rest ≡ length (all_told (drop l.list-index l.lists));
  begun : l.parts.items ≡ map not_begun (take l.list-index l.lists);
}
